-- The law of rows.
use Rattle.std.proofs.Common.{ℕ, List, [], map, length, Result, sym, refl, ap, ◌∙◌, subst}
use Rattle.jobparts.specs.Parts.{PartSeen}
use Rattle.jobparts.specs.declared.part.Wrong.{Wrong}
use Rattle.grammarlaw.specs.Laws.{Groups, RightRow, WritesRow, RefusedRow, RowSays, Laws}
use Rattle.joblaw.specs.Located.{shift_part, moved}
use Rattle.grammarlaw.specs.Rows.{steps_of}
use Rattle.grammarlaw.proofs.Coming.{Comes, reads, breaks, refuses}
use Rattle.grammarlaw.proofs.Reading.{steps_come}
use Rattle.grammarlaw.proofs.Writing.{steps_written, steps_refused}
use Rattle.grammarlaw.proofs.Rowing.{row_is}

says_by : (groups : Groups) (rest : List ℕ) (start : ℕ) (r : Result (List PartSeen) Wrong) →
    Comes (RightRow groups) (λ ss. WritesRow groups ss rest) (RefusedRow groups rest) rest r →
    RowSays groups rest start (moved (map (shift_part start)) start r)
says_by groups rest start r (reads ss is w) =
    subst (λ (q : Result (List PartSeen) Wrong). RowSays groups rest start
    (moved (map (shift_part start)) start q)) (sym is) (record { parts = ss; counted = refl; written = w })
says_by groups rest start r (breaks front tail cut is b) =
    subst (λ (q : Result (List PartSeen) Wrong). RowSays groups rest start
    (moved (map (shift_part start)) start q)) (sym is)
    (record {
      at = length front;
      counted = refl;
      here = record { front = front; tail = tail; whole = cut; place = refl; breaks = b };
    })
says_by groups rest start r (refuses p is f) =
    subst (λ (q : Result (List PartSeen) Wrong). RowSays groups rest start
    (moved (map (shift_part start)) start q)) (sym is)
    (record { at = p; counted = refl; here = f })

pub laws : Laws
laws groups laid before rest =
    record {
      says = subst (RowSays groups rest (length before)) (sym (row_is groups [] before rest))
          (says_by groups rest (length before) _ (steps_come (steps_of groups) laid [] rest));
      written = λ parts w. row_is groups [] before rest
          ∙ ap (moved (map (shift_part (length before))) (length before))
          (steps_written (steps_of groups) [] parts rest w);
      refused = λ p f. row_is groups [] before rest
          ∙ ap (moved (map (shift_part (length before))) (length before))
          (steps_refused (steps_of groups) [] rest p f);
    }
