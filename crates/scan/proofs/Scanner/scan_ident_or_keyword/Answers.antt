-- The word's end is that of its run, and its kind that of the bytes up to there (WordLaws). Assumes nothing.
use mathlib.Core.Path.{◌∙◌}
use Rattle.scan.proofs.WordLaws.{word-is}
use Rattle.scan.proofs.Scanner.scan_ident_or_keyword.Goals as goal

pub returns : goal.returns
returns c =
    let q = c.before in
    let e = c.word_end-e in
    c.token.ensures ∙ word-is q.args.self.text.now q.args.at e.result c.from_keyword.result q.requires e.ensures.0 c.from_keyword.ensures.kind
