-- A word, then a number. Assumes nothing.
use Rattle.std.proofs.Common.{rules, ◌≡◌, ◌∙◌, append_assoc}
use Rattle.text.proofs.Laws.{decimal_text}
use Rattle.text.specs.Number.{field, decimal}
use Rattle.text.proofs.put_field.Goals as goal

pub returns : goal.returns
unfolding field
returns c =
    let number : c.format.result.now ≡ decimal c.args.n = c.format.ensures.text ∙ decimal_text c.args.n (search rules) in
    let word = append_assoc c.args.text.now.bytes c.args.word.now (decimal c.args.n) in
    record { bytes = c.push_str-2.ensures.bytes ∙ rw (number, c.push_str.ensures.bytes) word; len = search rules }
