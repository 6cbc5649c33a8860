-- The law of bodies.
use Rattle.std.proofs.Common.{◌≡◌, ℕ, ◌+◌, List, [], ◌∷◌, ◌++◌, map, length, drop, Some, None, Option, Ok, Err, Result, sym, refl, ap, ◌∙◌, arith, subst, add_assoc}
use Rattle.std.proofs.Math.Seq.{drop-append-add}
use Rattle.std.proofs.lemmas.List.{append_assoc, length-append}
use Rattle.jobparts.specs.Grammar.{row_at}
use Rattle.jobparts.specs.Parts.{PartSeen, then, not_admitted}
use Rattle.jobparts.specs.declared.part.ReadRefusal.{ReadRefusal}
use Rattle.jobparts.specs.declared.part.ReadRefusal.TheVariants.{OutOfBounds, AtEnd, NoEscape, NoEnding, UnknownLetters, WrongByte, NotAdmitted}
use Rattle.jobparts.specs.declared.part.Wrong.{Wrong}
use Rattle.jobgroups.specs.Commands.{CommandSeen, command_at}
use Rattle.jobgroups.specs.Table.{letters_of, parts_of, order}
use Rattle.jobgroups.specs.declared.letters.Letters.{Letters}
use Rattle.job.specs.Reading.{first_led, parsed_at, body_at}
use Rattle.joblaw.specs.Located.{shift_part}
use Rattle.grammarlaw.specs.Bodies.{Breaks, BreaksAt}
use Rattle.grammarlaw.specs.Commands.{WritesCommand, RightCommand, RefusedCommand, BodyRefuses, BodySays, BodyLaws}
use Rattle.grammarlaw.specs.Laws.{RightRow, RowRefuses, RowSays, PlacedAt}
use Rattle.grammarlaw.proofs.Lawful.{laws}
use Rattle.grammarlaw.proofs.Letters.{first_split, none_leads, written_leads, refused_leads, alike}
use Rattle.grammarlaw.proofs.Table.{table_laid}

-- where the parts begin
place_of : (before : List ℕ) (c : Letters) →
    length before + 1 + length (letters_of c) ≡ length (before ++ (27 ∷ letters_of c))
place_of before c = omega (arith, length-append before (27 ∷ letters_of c))

-- reading a body whose letters are known
body_is : (before body : List ℕ) (c : Letters) (v : List ℕ) → body ≡ letters_of c ++ v →
    first_led order (letters_of c ++ v) ≡ Some c →
    body_at (before ++ (27 ∷ body)) (length before)
    ≡ then (row_at (parts_of c) [] ((before ++ (27 ∷ letters_of c)) ++ v)
    (length (before ++ (27 ∷ letters_of c)))) (λ parts. Ok (record { letters = c; parts = parts }))
body_is before body c v cut led =
    ap (λ bs. parsed_at (first_led order bs) (before ++ (27 ∷ body)) (length before) (length before + 1))
    (drop-append-add before (27 ∷ body) 1)
    ∙ ap (λ o. parsed_at o (before ++ (27 ∷ body)) (length before) (length before + 1))
    (ap (first_led order) cut ∙ led)
    ∙ ap (λ bs. command_at c (before ++ (27 ∷ bs)) (length before + 1 + length (letters_of c))) cut
    ∙ ap (λ bs. command_at c bs (length before + 1 + length (letters_of c)))
    (sym (append_assoc before (27 ∷ letters_of c) v))
    ∙ ap (command_at c ((before ++ (27 ∷ letters_of c)) ++ v)) (place_of before c)

-- a body breaks where its row does
breaks_command : (c : Letters) (front tail : List ℕ) →
    first_led order (letters_of c ++ (front ++ tail)) ≡ Some c → Breaks (RightRow (parts_of c)) front tail →
    Breaks RightCommand (letters_of c ++ front) tail
breaks_command c front tail led b =
    record {
      goes = (
        b.goes.0,
        record {
          letters = c;
          behind = front ++ b.goes.0;
          whole = append_assoc (letters_of c) front b.goes.0;
          right = b.goes.1;
        },
      );
      ends = λ x same w. b.ends x same
          (alike c w.letters front tail x w.behind same led
          (sym (append_assoc (letters_of c) front x) ∙ w.whole) w.right);
    }

breaks_at : (c : Letters) (body v : List ℕ) (at : ℕ) → body ≡ letters_of c ++ v →
    first_led order (letters_of c ++ v) ≡ Some c → BreaksAt (RightRow (parts_of c)) v at →
    BreaksAt RightCommand body (length (letters_of c) + at)
breaks_at c body v at cut led b =
    record {
      front = letters_of c ++ b.front;
      tail = b.tail;
      whole = cut ∙ ap (λ (x : List ℕ). letters_of c ++ x) b.whole ∙ sym (append_assoc (letters_of c) b.front b.tail);
      place = ap (λ n. length (letters_of c) + n) b.place ∙ sym (length-append (letters_of c) b.front);
      breaks = breaks_command c b.front b.tail
          (ap (λ bs. first_led order (letters_of c ++ bs)) (sym b.whole) ∙ led) b.breaks;
    }

placed_on : {P : ℕ → Type 0} {Q : ℕ → Type 0} (before : List ℕ) (c : Letters) (place : ℕ) →
    ((n : ℕ) → P n → Q (length (letters_of c) + n)) →
    PlacedAt P (length (before ++ (27 ∷ letters_of c))) place → PlacedAt Q (length before + 1) place
placed_on before c place h p =
    record {
      at = length (letters_of c) + p.at;
      counted = p.counted ∙ ap (λ n. n + p.at) (sym (place_of before c))
          ∙ add_assoc (length before + 1) (length (letters_of c)) p.at;
      here = h p.at p.here;
    }

refuses_on : (before body : List ℕ) (c : Letters) (v : List ℕ) → body ≡ letters_of c ++ v →
    first_led order (letters_of c ++ v) ≡ Some c → (r : ReadRefusal) (place : ℕ) →
    RowRefuses (parts_of c) v (length (before ++ (27 ∷ letters_of c))) r place →
    BodyRefuses body (length before) r place
refuses_on before body c v cut led OutOfBounds place f = f
refuses_on before body c v cut led AtEnd place f = f
refuses_on before body c v cut led NoEscape place f = f
refuses_on before body c v cut led NoEnding place f = f
refuses_on before body c v cut led UnknownLetters place f = absurd f
refuses_on before body c v cut led WrongByte place f =
    placed_on before c place (λ n b. breaks_at c body v n cut led b) f
refuses_on before body c v cut led NotAdmitted place f =
    placed_on before c place
    (λ n b. record { letters = c; behind = v; q = n; whole = cut; refused = b; place = refl }) f

says_on : (before body : List ℕ) (c : Letters) (v : List ℕ) → body ≡ letters_of c ++ v →
    first_led order (letters_of c ++ v) ≡ Some c → (r : Result (List PartSeen) Wrong) →
    RowSays (parts_of c) v (length (before ++ (27 ∷ letters_of c))) r →
    BodySays body (length before) (then r (λ parts. Ok (record { letters = c; parts = parts })))
says_on before body c v cut led (Ok found) h =
    record {
      behind = v;
      whole = cut;
      parts = record {
        parts = h.parts;
        counted = h.counted
            ∙ ap (λ n. map (shift_part n) h.parts) (sym (place_of before c));
        written = h.written;
      };
    }
says_on before body c v cut led (Err w) h = refuses_on before body c v cut led w.refusal w.place h

says_by : (before body : List ℕ) (o : Option Letters) → first_led order body ≡ o →
    BodySays body (length before) (body_at (before ++ (27 ∷ body)) (length before))
says_by before body None e =
    subst (BodySays body (length before))
    (sym (ap (λ bs. parsed_at (first_led order bs) (before ++ (27 ∷ body)) (length before) (length before + 1))
    (drop-append-add before (27 ∷ body) 1)
    ∙ ap (λ o. parsed_at o (before ++ (27 ∷ body)) (length before) (length before + 1)) e))
    (refl, none_leads body e)
says_by before body (Some c) e =
    let v = drop (length (letters_of c)) body in
    let cut = first_split order body c e in
    let led : first_led order (letters_of c ++ v) ≡ Some c = ap (first_led order) (sym cut) ∙ e in
    subst (BodySays body (length before)) (sym (body_is before body c v cut led))
    (says_on before body c v cut led _ (laws (parts_of c) (table_laid c) (before ++ (27 ∷ letters_of c)) v).says)

body_written : (before body : List ℕ) (p : CommandSeen) → WritesCommand p body (length before + 1) →
    body_at (before ++ (27 ∷ body)) (length before) ≡ Ok p
body_written before body p w =
    let c = p.letters in
    let v = w.behind in
    body_is before body c v w.whole (written_leads c v (w.parts.parts, w.parts.written))
    ∙ ap (λ r. then r (λ parts. Ok (record { letters = c; parts = parts })))
    ((laws (parts_of c) (table_laid c) (before ++ (27 ∷ letters_of c)) v).written w.parts.parts w.parts.written)
    ∙ ap (λ ss. Ok (record { letters = c; parts = ss }))
    (ap (λ n. map (shift_part n) w.parts.parts) (sym (place_of before c)) ∙ sym w.parts.counted)

body_refused : (before body : List ℕ) (p : ℕ) → RefusedCommand body p →
    body_at (before ++ (27 ∷ body)) (length before) ≡ Err (not_admitted (length before + 1 + p))
body_refused before body p f =
    let c = f.letters in
    body_is before body c f.behind f.whole (refused_leads c f.behind (f.q, f.refused))
    ∙ ap (λ r. then r (λ parts. Ok (record { letters = c; parts = parts })))
    ((laws (parts_of c) (table_laid c) (before ++ (27 ∷ letters_of c)) f.behind).refused f.q f.refused)
    ∙ ap (λ n. Err (not_admitted n))
    (ap (λ n. n + f.q) (sym (place_of before c))
    ∙ add_assoc (length before + 1) (length (letters_of c)) f.q ∙ ap (λ n. length before + 1 + n) (sym f.place))

pub body_laws : (before body : List ℕ) → BodyLaws before body
body_laws before body =
    record {
      says = says_by before body (first_led order body) refl;
      written = body_written before body;
      refused = body_refused before body;
    }
