use Rattle.std.proofs.Common.{◌≡◌, ◌+◌, min, eqb, length, ap, ◌∙◌, arith}
use Rattle.std.proofs.lemmas.List.{length-take}
use Rattle.job.proofs.Placing.{stands_within}
use Rattle.job.proofs.read.ending.Goals as goal

pub returns-clause-within : goal.returns-clause-within
returns-clause-within c =
    let long : length c.first-window.result.now ≡ min 255 (length c.rest_at.result.now) =
    ap length c.first-window.ensures ∙ length-take 255 c.rest_at.result.now in
    let stands = stands_within (eqb 0) c.first-window.result.now
    (c.count_before-line.result + 1) c.if-not-stands_at.ensures in
    omega arith
