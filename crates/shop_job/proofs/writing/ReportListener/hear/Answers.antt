use Rattle.std.proofs.Common.{◌≡◌, ℕ, List, sym, ap, ◌∙◌}
use mathlib.Core.Path.{subst⁻¹}
use Rattle.std.specs.Result.{OnOk}
use Rattle.std.specs.Io.KnownBytes.{Appends}
use Rattle.jobrun.specs.declared.stage.Stage.{Stage}
use Rattle.shop_job.specs.Writing.{written_for}
use Rattle.shop_job.proofs.writing.ReportListener.hear.Goals as goal

pub returns-in-Refused : goal.returns-in-Refused
returns-in-Refused g c =
    let line : written_for c.args.stage.now c.args.work.now ≡ c.refusal_line.result =
    ap (λ (t : Stage). written_for t c.args.work.now) c.in-Refused.is ∙ sym c.refusal_line.ensures in
    subst⁻¹ (λ (bs : List ℕ). OnOk c.write_all-in-Refused.result
    (Appends (g.W.Write.contents c.args.self.now.out) (g.W.Write.contents c.write_all-in-Refused.new.self)
    bs)) line c.write_all-in-Refused.ensures.bytes
