-- The law of whole runs.
use Rattle.std.proofs.Common.{◌≡◌, ℕ, Bool, true, false, cond, eqb, List, [], ◌∷◌, ◌++◌, length, drop, None, Option, Result, sym, refl, ap, ◌∙◌, subst, append-nil, arith}
use mathlib.Core.Path.{subst⁻¹}
use Rattle.texts.specs.Wheels.{Wheels}
use Rattle.tagline.specs.Digits.{four_digits}
use Rattle.station.specs.Status.{answer_for}
use Rattle.jobgroups.specs.Commands.{CommandSeen}
use Rattle.station.specs.Reads.{read_at, Misread}
use Rattle.station.specs.Requests.{Request, tell_status}
use Rattle.station.specs.Steps.{command, answer_after, answer_on, answer_by, answer_bytes, Performed}
use Rattle.station.specs.Views.{ModeSeen, idle, saving, owing, View, IsNew, owed_in, owed_by}
use Rattle.ledger.specs.Ledgers.{Ledger, feed, opened}
use Rattle.ledger.specs.Laws.{Event, Run, Throughout, fed, Asks, digits_in, saving_in, FreeToRecall, Accounted, Answered, AllAccounted, AllAnswered, AccountedAfter}
use Rattle.ledger.proofs.Basics.{not_none}
use Rattle.ledger.proofs.Readers.{Reader}
use Rattle.ledger.proofs.Bond.{Ties, Bound, tied_step, tied_made}
use Rattle.ledger.proofs.Recalls.{recall_law, tried}

-- the four digits of a status answer, whatever its status characters and whatever stands behind it
digits_told : (owed left : ℕ) (rest : List ℕ) → digits_in (answer_for owed left ++ rest) ≡ four_digits owed
digits_told owed left rest = go (eqb owed 0) (eqb left 0)
  where
    go : (a b : Bool) →
        digits_in ((1 ∷ 2 ∷
        (cond a (48 ∷ 48 ∷ [])
        (cond b (49 ∷ 51 ∷ []) (48 ∷ 50 ∷ [])) ++ (49 ∷ (four_digits owed ++ (3 ∷ 4 ∷ 13 ∷ 10 ∷ []))))) ++ rest)
        ≡ four_digits owed
    go true b = refl
    go false true = refl
    go false false = refl

digits_written : (owed left : ℕ) → digits_in (answer_for owed left) ≡ four_digits owed
digits_written owed left = ap digits_in (sym (append-nil (answer_for owed left))) ∙ digits_told owed left []

-- what a status command leaves in the answer buffer
status_in : (v : View) (job : List ℕ) (at : ℕ) (answer : List ℕ) (work : ℕ) →
    Asks (command job at (length answer) work) tell_status →
    digits_in (answer_after v job at answer work) ≡ four_digits (owed_by v)
status_in v job at answer work a =
    ap (λ (b : Bool). digits_in (cond b answer (answer_on (read_at job at) v answer))) a.3
    ∙ ap (λ (o : Result CommandSeen Misread). digits_in (answer_on o v answer)) a.1
    ∙ ap (λ (q : Request). digits_in (answer_by q v answer)) a.2
    ∙ digits_told (owed_by v) v.paper.left (drop answer_bytes answer)

owed_tied : (d : ModeSeen) (number : Option ℕ) (draft : List (List ℕ)) (owed size : ℕ) →
    Ties d number draft owed size → owed_in d ≡ owed
owed_tied idle number draft owed size t = sym t.1
owed_tied (saving n d) number draft owed size t = sym t.1
owed_tied (owing left all) number draft owed size t = sym t.1

saving_tied : (d : ModeSeen) (number : Option ℕ) (draft : List (List ℕ)) (owed size : ℕ) →
    Ties d number draft owed size → saving_in d ≡ number
saving_tied idle number draft owed size t = sym t.0
saving_tied (saving n d) number draft owed size t = sym t.0
saving_tied (owing left all) number draft owed size t = sym t.0

-- a station that owes nothing and saves no form is idle
idle_tied : (d : ModeSeen) (number : Option ℕ) (draft : List (List ℕ)) (owed size : ℕ) →
    Ties d number draft owed size → owed ≡ 0 → number ≡ None → d ≡ idle
idle_tied idle number draft owed size t none free = refl
idle_tied (saving n d) number draft owed size t none free = not_none (sym free ∙ t.0)
idle_tied (owing left all) number draft owed size t none free = let some = t.3 in let same = t.1 in
    absurd (let z : ⊥ = omega (arith, none, same, some) in z)

module _ (r : Reader) (w w' : Wheels) (base : ℕ) where
  pub accounted : (l : Ledger) (v : View) → Bound w w' base l v → Accounted base l v
  accounted l v h =
      let owed : owed_by v ≡ l.owed = owed_tied v.mode l.saving l.draft l.owed l.size h.mode in
      let free : (n : ℕ) (ws : List (List ℕ)) → FreeToRecall l n ws → v.mode ≡ idle =
      λ n ws f. idle_tied v.mode l.saving l.draft l.owed l.size h.mode f.owed f.saving in
      record {
        tags = h.tags;
        taken = h.taken;
        told = digits_written (owed_by v) v.paper.left ∙ ap four_digits owed;
        few = h.few;
        owed = owed;
        latest = h.latest;
        saving = saving_tied v.mode l.saving l.draft l.owed l.size h.mode;
        recalls = λ n ws f. recall_law r w w' base l v h n ws f.saved (free n ws f);
        tries = λ n ws f. tried r w w' base l v h n ws f.saved (free n ws f);
      }

  pub throughout : (l : Ledger) (u x : View) (es : List Event) → Bound w w' base l u → Run u es x →
      Throughout w w' (Accounted base) l u es x
  throughout l u x [] h run = (run, accounted l u h)
  throughout l u x (e ∷ es) h run = (
    accounted l u h,
    (
      run.0,
      run.1,
      throughout (feed w w' l e.call e.accepted) run.0 x es
          (tied_step r w w' base l u run.0 e.call e.accepted h run.1) run.2,
    ),
  )

-- the ledger is bound to a new station
pub bound_new : (u : View) → IsNew u → Bound u.first u.second u.paper.taken (opened u.forms.at) u
bound_new u new = subst⁻¹ (λ (v : View). Bound u.first u.second u.paper.taken (opened u.forms.at) v) new
    (tied_made u.forms u.paper u.first u.second)

pub all_accounted : Reader → (u x : View) (es : List Event) → IsNew u → Run u es x → AllAccounted u es x
all_accounted r u x es new run = throughout r u.first u.second u.paper.taken (opened u.forms.at) u x es
    (bound_new u new) run

-- what follows holds throughout, too
throughout_so : (w w' : Wheels) (P Q : Ledger → View → Type 0) → ((l : Ledger) (v : View) → P l v → Q l v) →
    (l : Ledger) (u x : View) (es : List Event) → Throughout w w' P l u es x
    → Throughout w w' Q l u es x
throughout_so w w' P Q f l u x [] h = (h.0, f l u h.1)
throughout_so w w' P Q f l u x (e ∷ es) h = (
  f l u h.0,
  (h.1.0, h.1.1, throughout_so w w' P Q f (feed w w' l e.call e.accepted) h.1.0 x es h.1.2),
)

pub answered : (base : ℕ) (l : Ledger) (v : View) → Accounted base l v → Answered l v
answered base l v h = λ job at answer work a. status_in v job at answer work a ∙ ap four_digits h.owed

pub all_answered : (u x : View) (es : List Event) → AllAccounted u es x → AllAnswered u es x
all_answered u x es h = throughout_so u.first u.second (Accounted u.paper.taken) Answered
    (answered u.paper.taken) (opened u.forms.at) u x es h

-- one call more
pub run_more : (u v x : View) (es : List Event) (e : Event) → Run u es v → Performed v e.call e.accepted x →
    Run u (es ++ e ∷ []) x
run_more u v x [] e run s = (x, subst (λ (z : View). Performed z e.call e.accepted x) run s, refl)
run_more u v x (d ∷ es) e run s = (run.0, run.1, run_more run.0 v x es e run.2 s)

-- what holds throughout holds at the end
at_end : (w w' : Wheels) (P : Ledger → View → Type 0) (l : Ledger) (u x : View) (es : List Event) →
    Throughout w w' P l u es x → P (fed w w' l es) x
at_end w w' P l u x [] h = subst⁻¹ (λ (z : View). P l z) h.0 h.1
at_end w w' P l u x (e ∷ es) h = at_end w w' P (feed w w' l e.call e.accepted) h.1.0 x es h.1.2

pub accounted_after : (u x : View) (es : List Event) → AllAccounted u es x → AccountedAfter u es x
accounted_after u x es h = at_end u.first u.second (Accounted u.paper.taken) (opened u.forms.at) u x es h
