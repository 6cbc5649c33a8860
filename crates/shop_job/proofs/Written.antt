-- A listener that writes for each step has written for all of them.
use Rattle.std.proofs.Common.{◌≡◌, ℕ, List, [], ◌∷◌, ◌++◌, IfOk, Some, None, Ok, Err, Option, Result, ap, ◌∙◌, append_assoc}
use mathlib.Core.Path.{subst⁻¹}
use Rattle.std.specs.Io.KnownBytes.{Appends}
use Rattle.jobrun.specs.Stages.{Moment}
use Rattle.jobrun.specs.Jobs.{place_after, Stages, Led}
use Rattle.jobrun.specs.Hearing.{HearsAll, Heard}
use Rattle.jobrun.specs.declared.stage.Stage.{Stage}
use Rattle.shop_job.specs.Printing.{Told}
use Rattle.shop_job.specs.Writing.{written_for, written_in, written_by}
use Rattle.shop_job.proofs.Lines.{nothing}

more : (a b c : Option (List ℕ)) (xs ys : List ℕ) → Appends a b xs → Appends b c ys → Appends a c (xs ++ ys)
more None b c xs ys p q = tt
more (Some x) None c xs ys p q = absurd p
more (Some x) (Some y) None xs ys p q = absurd q
more (Some x) (Some y) (Some z) xs ys p q = q ∙ ap (λ (k : List ℕ). k ++ ys) p ∙ append_assoc x xs ys

module _ {K : Type 0} (bytes : K → Option (List ℕ)) where
  abbrev pub Writes : K → Stage → List ℕ → K → Type 0
  Writes k t work m = Appends (bytes k) (bytes m) (written_for t work)

  all_written : (job : List ℕ) (at p : ℕ) (d e : Moment) (ts : List Stage) (h : Stages job at d ts p e) (k m : K)
      → HearsAll Writes job at d ts p e h k m
      → Appends (bytes k) (bytes m) (written_in job at d ts p e h)
  all_written job at p d e [] h k m q = subst⁻¹ (λ (x : K). Appends (bytes k) (bytes x) []) q (nothing (bytes k))
  all_written job at p d e (t ∷ ts) h k m q =
      more (bytes k) (bytes q.0) (bytes m) (written_for t h.0.work)
      (written_in job (place_after t at) h.0 ts p e h.3) q.1
      (all_written job (place_after t at) p h.0 e ts h.3 q.0 m q.2)

  pub written : (job : List ℕ) (d e : Moment) (ts : List Stage) (t : Stage) (l : Led job d ts t e) (k m : K) →
      Heard Writes l k m → Appends (bytes k) (bytes m) (written_by l)
  written job d e ts t l k m q =
      more (bytes k) (bytes q.0) (bytes m) (written_in job 0 d ts l.place l.before l.stages) (written_for t e.work)
      (all_written job 0 l.place d l.before ts l.stages k q.0 q.1) q.2

  pub told_written : {E : Type 0} (job answer work a w : List ℕ) (k l : K) (r : Result ℕ E) →
      IfOk r (λ tags. (t : Told job answer work tags a w) × Heard Writes t.booked.led k l)
      → IfOk r (λ tags. (b : List ℕ) × (z : List ℕ) × (t : Told job answer work tags b z) × Appends (bytes k)
      (bytes l) (written_by t.booked.led))
  told_written job answer work a w k l (Ok tags) h = (a, w, h.0, written job _ _ _ _ h.0.booked.led k l h.1)
  told_written job answer work a w k l (Err e) h = tt
