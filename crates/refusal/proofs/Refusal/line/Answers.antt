use Rattle.std.proofs.Common.{rules, ◌∙◌, arith}
use Rattle.refusal.proofs.Digits.{by_digits, whole_place}
use Rattle.refusal.proofs.Refusal.line.Goals as goal

pub returns : goal.returns
returns c =
    let line = by_digits c.args.self _ (omega arith) (search rules) in
    record { line = line; text = λ below. line ∙ whole_place c.args.self below }
