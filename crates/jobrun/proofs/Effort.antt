-- A job comes to its end: what is left to do falls with every step.
use Rattle.std.proofs.Common.{◌≡◌, ℕ, ◌+◌, ◌-◌, ◌*◌, ◌<◌, ◌≤◌, Bool, true, false, cond, leb, List, length, Some, None, Option, sym, refl, ap, ◌∙◌, subst, arith}
use Rattle.faults.specs.declared.Fault.{Fault}
use Rattle.station.specs.Steps.{print_fault, PrintedIn, one_less}
use Rattle.station.specs.Views.{ModeSeen, idle, saving, owing, View, IsNew, owed_in, owed_by}
use Rattle.ledger.proofs.Basics.{never}
use Rattle.std.proofs.lemmas.Bool.{leb-false, leb-true}
use Rattle.ledger.proofs.Bond.{Ties}
use Rattle.ledger.proofs.Reading.{reader}
use Rattle.ledger.proofs.Runs.{all_accounted, accounted_after}
use Rattle.jobrun.specs.Stages.{Moment, Again, Sending, Tagging, StagedBy, Staged, tag_next}
use Rattle.jobrun.specs.Jobs.{place_after, is_last}
use Rattle.jobrun.specs.declared.stage.Stage.{Stage}
use Rattle.jobrun.specs.declared.stage.Stage.TheVariants.{Tag, Done, Refused, Ended, NoStock}
use Rattle.jobrun.proofs.Calls.{Calls, ledger_so_far, bound_so_far}
use Rattle.jobrun.proofs.Going.{accepted_on, refused_on}

-- the job's bytes that are left, each worth more than any issue, and the labels that are owed
abbrev pub effort : List ℕ → ℕ → View → ℕ
effort job at v = (length job + 1 - at) * 10000 + owed_by v

one_fewer : (left size : ℕ) → 0 < left → owed_in (one_less left size) + 1 ≡ left
one_fewer left size pos = go (leb left 1) refl
  where
    go : (b : Bool) → leb left 1 ≡ b → owed_in (cond b idle (owing (left - 1) size)) + 1 ≡ left
    go true h = omega (arith, leb-true left 1 h)
    go false h = omega (arith, leb-false left 1 h)

-- a tag taken is owed no more
tag_fewer : (m u : View) → ((left size : ℕ) → m.mode ≡ owing left size → 0 < left) → PrintedIn m.mode m u →
    owed_by u + 1 ≡ owed_by m
tag_fewer m u pos p = go m.mode refl p
  where
    go : (d : ModeSeen) → m.mode ≡ d → PrintedIn d m u → owed_by u + 1 ≡ owed_in d
    go idle q p = absurd p
    go (saving n d) q p = absurd p
    go (owing left size) q p = ap (λ (x : View). owed_by x + 1) p.after ∙ one_fewer left size (pos left size q)

module _ (u : View) (new : IsNew u) where
  -- four digits are enough for what is owed
  pub few_owed : (n : ℕ) (x : View) → Calls u n x → owed_by x ≤ 9999
  few_owed n x c =
      let a = accounted_after u x c.events (all_accounted reader u x c.events new c.run) in
      omega (arith, a.few, a.owed)

  some_owed : (n : ℕ) (x : View) → Calls u n x → (left size : ℕ) → x.mode ≡ owing left size → 0 < left
  some_owed n x c left size q =
      let l = ledger_so_far u new n x c in
      let t : Ties (owing left size) l.saving l.draft l.owed l.size =
      subst (λ (d : ModeSeen). Ties d l.saving l.draft l.owed l.size) q (bound_so_far u new n x c).mode in
      t.3

  module _ (job : List ℕ) (at : ℕ) (d e : Moment) (n k : ℕ) (so_far : Calls u n d.view)
      (then : Calls u k e.view) where
    abbrev Falls : Stage → Type 0
    Falls t = effort job (place_after t at) e.view < effort job at d.view

    again_falls : (t : Stage) → is_last t ≡ false → Again d t e → Falls t
    again_falls (Tag n') l a =
        let kept : a.0.mode ≡ d.view.mode = ap (λ (x : View). x.mode) a.1.after in
        let less = tag_fewer a.0 e.view (λ left size q. some_owed n d.view so_far left size (sym kept ∙ q))
        a.2.step.1 in
        let same : owed_by a.0 ≡ owed_by d.view = ap owed_in kept in
        omega (arith, less, same)
    again_falls (Done next) l a = absurd a
    again_falls (Refused f) l a = absurd a
    again_falls (Ended f) l a = absurd a
    again_falls (NoStock f) l a = never (sym l)

    sending_falls : (t : Stage) → is_last t ≡ false → Sending job at d t e → Falls t
    sending_falls (Tag n') l s = absurd s
    sending_falls (Done next) l s =
        let g = accepted_on job at d.view (length d.answer) (length d.work) e.view next s.step in
        omega (arith, g.within, g.on, few_owed k e.view then)
    sending_falls (Refused f) l s =
        let g = refused_on job at d.view (length d.answer) (length d.work) f s.0.step.0 s.1 in
        omega (arith, g.within, g.on, few_owed k e.view then)
    sending_falls (Ended f) l s = never (sym l)
    sending_falls (NoStock f) l s = never (sym l)

    tagging_falls : (o : Option Fault) (t : Stage) → is_last t ≡ false → Tagging o d t e → Falls t
    tagging_falls None t l h =
        let less = tag_fewer d.view e.view (some_owed n d.view so_far) h.2.step.1 in
        subst (λ (x : Stage). effort job (place_after x at) e.view < effort job at d.view) (sym h.1)
        (omega (arith, less))
    tagging_falls (Some f) t l h = again_falls t l h

    pub falls : (t : Stage) → is_last t ≡ false → Staged job at d t e → Falls t
    falls t l h = go (tag_next d) h
      where
        go : (b : Bool) → StagedBy b job at d t e → Falls t
        go true h = tagging_falls (print_fault d.view (length d.work)) t l h
        go false h = sending_falls t l h
