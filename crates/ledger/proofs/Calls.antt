-- What an accepted and what a refused command call tells: how its command was read, and what its request came to.
use Rattle.std.proofs.Common.{◌≡◌, ℕ, Bool, true, false, cond, List, Some, None, Ok, Err, Result, sym, refl, ap, ◌∙◌}
use Rattle.faults.specs.declared.Refusal.TheVariants.{ShortBuffer}
use Rattle.jobgroups.specs.Commands.{CommandSeen}
use Rattle.station.specs.Reads.{read_at, next_at, out_of_bounds, Misread}
use Rattle.station.specs.Requests.{request_of}
use Rattle.station.specs.Steps.{command, answered, whole_at, concluded, on_read, short_buffers, commanded, fault_at, Performed}
use Rattle.station.specs.Views.{View}
use Rattle.station.specs.declared.blame.Blame.{Blame}
use Rattle.ledger.proofs.Basics.{ok_inj, not_ok, ok_of}

module _ (v : View) (job : List ℕ) (at answer work : ℕ) where
  concluded_ok : (u : View) (next : ℕ) (o : Result View Blame) → concluded o (next_at job at) ≡ Ok (u, next) →
      o ≡ Ok u
  concluded_ok u next (Ok x) e = ap Ok (ap (λ (p : View × ℕ). p.0) (ok_inj e))
  concluded_ok u next (Err b) e = not_ok e

  -- an accepted command was read, and its request came to the station then
  pub accepted_read : (u : View) (next : ℕ) → commanded v job at answer work ≡ Ok (u, next)
      → (c : CommandSeen) × (read_at job at ≡ Ok c) × (answered v (request_of c) (whole_at job at) at ≡ Ok u)
  accepted_read u next e = read (read_at job at) refl (bounds (out_of_bounds job at) (short_buffers answer work) e)
    where
      bounds : (a b : Bool) →
          cond a (on_read v job at (read_at job at))
          (cond b (Err (fault_at ShortBuffer 0 at at)) (on_read v job at (read_at job at))) ≡ Ok (u, next)
          → on_read v job at (read_at job at) ≡ Ok (u, next)
      bounds true b e = e
      bounds false true e = not_ok e
      bounds false false e = e

      read : (o : Result CommandSeen Misread) → read_at job at ≡ o → on_read v job at o ≡ Ok (u, next)
          → (c : CommandSeen) × (read_at job at ≡ Ok c) × (answered v (request_of c) (whole_at job at) at ≡ Ok u)
      read (Ok c) h e = (c, h, concluded_ok u next (answered v (request_of c) (whole_at job at) at) e)
      read (Err x) h e = not_ok e

  -- with long enough buffers a command that was read comes to what its request comes to
  module _ (c : CommandSeen) (reads : read_at job at ≡ Ok c) (long : short_buffers answer work ≡ false) where
    comes_to : commanded v job at answer work ≡ concluded (answered v (request_of c) (whole_at job at) at)
        (next_at job at)
    comes_to =
        ap (λ (b : Bool). cond (out_of_bounds job at) (on_read v job at (read_at job at))
        (cond b (Err (fault_at ShortBuffer 0 at at)) (on_read v job at (read_at job at)))) long
        ∙ either (out_of_bounds job at) ∙ ap (on_read v job at) reads
      where
        either : (b : Bool) →
            cond b (on_read v job at (read_at job at)) (on_read v job at (read_at job at))
            ≡ on_read v job at (read_at job at)
        either true = refl
        either false = refl

    pub step_ok : (x : View) → Performed v (command job at answer work) true x →
        ok_of (answered v (request_of c) (whole_at job at) at) ≡ Some x
    step_ok x s = ap ok_of (concluded_ok x s.0 (answered v (request_of c) (whole_at job at) at) (sym comes_to ∙ s.1))

    pub step_not : (x : View) → Performed v (command job at answer work) false x →
        ok_of (answered v (request_of c) (whole_at job at) at) ≡ None
    step_not x s = go (answered v (request_of c) (whole_at job at) at) (sym comes_to ∙ s.1)
      where
        go : (o : Result View Blame) → concluded o (next_at job at) ≡ Err s.0 → ok_of o ≡ None
        go (Ok y) e = not_ok (sym e)
        go (Err b) e = refl

    -- such a call can be made
    pub stepped : (ok : Bool) × (x : View) × Performed v (command job at answer work) ok x
    stepped = go (answered v (request_of c) (whole_at job at) at) comes_to
      where
        go : (o : Result View Blame) → commanded v job at answer work ≡ concluded o (next_at job at) →
            (ok : Bool) × (x : View) × Performed v (command job at answer work) ok x
        go (Ok y) e = (true, y, (next_at job at, e))
        go (Err b) e = (false, v, (fault_at b.refusal b.form b.place (next_at job at), e, refl))
