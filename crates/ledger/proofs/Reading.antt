-- The reader of commands is such that what a command asks hangs on its own bytes alone.
use Rattle.std.proofs.Common.{◌≡◌, ℕ, ◌+◌, ◌≤◌, List, ◌++◌, map, length, Ok, Err, Result, sym, refl, ap, ◌∙◌, ap₂}
use lib.ListN.{get_or-map}
use Rattle.limits.specs.Limits.{longest_job}
use Rattle.jobparts.specs.Parts.{PartSeen, missing, given, linked, bytes_of}
use Rattle.jobgroups.specs.Commands.{CommandSeen}
use Rattle.jobgroups.specs.declared.letters.Letters.{Letters}
use Rattle.jobgroups.specs.declared.letters.Letters.TheVariants.{OfLabel, OfStation}
use Rattle.jobgroups.specs.declared.letters.LabelLetters.{LabelLetters}
use Rattle.jobgroups.specs.declared.letters.LabelLetters.TheVariants.{D, C, Pc, Xb, RcLinks, Rc, Rb, Lc, Xr}
use Rattle.jobgroups.specs.declared.letters.StationLetters.{StationLetters}
use Rattle.jobgroups.specs.declared.letters.StationLetters.TheVariants.{Xs, Xo, Xp, Xq, J1, Ws, Wr}
use Rattle.job.specs.Reading.{answer_of, next_of, read_at as read_job}
use Rattle.job.specs.declared.fault.ReadFault.{ReadFault}
use Rattle.jobvalues.specs.Meaning.{step_of, kept_of, text_check_of}
use Rattle.label.specs.Actions.{action_for, part, bytes, source_text, source_links}
use Rattle.station.specs.Reads.{read_at, next_at}
use Rattle.station.specs.Requests.{on_label, request_of, request_by, request_for}
use Rattle.ledger.proofs.Readers.{Whole, Located, Cut, Reader}
use Rattle.ledger.proofs.Basics.{ok_inj, not_ok}
use Rattle.joblaw.specs.Located.{shift_part, shift_plain}
use Rattle.ledger.proofs.Moved.{Alone, located, cut}

-- ---- what a command asks does not hang on the places of its parts
module _ (k : ℕ) (ps : List PartSeen) where
  abbrev moved : List PartSeen
  moved = map (shift_part k) ps

  bytes_at : (n : ℕ) → bytes n moved ≡ bytes n ps
  bytes_at n = ap bytes_of (get_or-map (shift_part k) ps n missing) ∙ go (part n ps)
    where
      go : (s : PartSeen) → bytes_of (shift_part k s) ≡ bytes_of s
      go missing = refl
      go (given p bs) = refl
      go (linked p bs) = refl

  check_at : (n : ℕ) → text_check_of (part n moved) ≡ text_check_of (part n ps)
  check_at n = ap text_check_of (get_or-map (shift_part k) ps n missing) ∙ go (part n ps)
    where
      go : (s : PartSeen) → text_check_of (shift_part k s) ≡ text_check_of s
      go missing = refl
      go (given p bs) = refl
      go (linked p bs) = refl

  step_at : (n : ℕ) → step_of (part n moved) ≡ step_of (part n ps)
  step_at n = ap step_of (get_or-map (shift_part k) ps n missing) ∙ go (part n ps)
    where
      go : (s : PartSeen) → step_of (shift_part k s) ≡ step_of s
      go missing = refl
      go (given p bs) = refl
      go (linked p bs) = refl

  kept_at : (n : ℕ) → kept_of (part n moved) ≡ kept_of (part n ps)
  kept_at n = ap kept_of (get_or-map (shift_part k) ps n missing) ∙ go (part n ps)
    where
      go : (s : PartSeen) → kept_of (shift_part k s) ≡ kept_of s
      go missing = refl
      go (given p bs) = refl
      go (linked p bs) = refl

  text_at_lem : (n : ℕ) → source_text (part n moved) ≡ source_text (part n ps)
  text_at_lem n = ap source_text (get_or-map (shift_part k) ps n missing) ∙ go (part n ps)
    where
      go : (s : PartSeen) → source_text (shift_part k s) ≡ source_text s
      go missing = refl
      go (given p bs) = refl
      go (linked p bs) = refl

  links_at : (n : ℕ) → source_links (part n moved) ≡ source_links (part n ps)
  links_at n = ap source_links (get_or-map (shift_part k) ps n missing) ∙ go (part n ps)
    where
      go : (s : PartSeen) → source_links (shift_part k s) ≡ source_links s
      go missing = refl
      go (given p bs) = refl
      go (linked p bs) = refl

  action_moved : (c : LabelLetters) → action_for c moved ≡ action_for c ps
  action_moved D = rw (bytes_at 0, bytes_at 1, bytes_at 2)
  action_moved C = refl
  action_moved Pc = rw (
    bytes_at 0,
    bytes_at 1,
    bytes_at 2,
    check_at 8,
    step_at 9,
    kept_at 10,
    links_at 11,
    text_at_lem 11,
  )
  action_moved Xb = rw (
    bytes_at 0,
    bytes_at 1,
    bytes_at 2,
    bytes_at 3,
    bytes_at 4,
    step_at 12,
    kept_at 13,
    links_at 14,
    text_at_lem 14,
  )
  action_moved RcLinks = rw (bytes_at 0)
  action_moved Rc = rw (bytes_at 0, bytes_at 1)
  action_moved Rb = rw (bytes_at 0, bytes_at 1)
  action_moved Lc = rw (bytes_at 0, bytes_at 1, bytes_at 2, bytes_at 3, bytes_at 4, bytes_at 5)
  action_moved Xr = rw (bytes_at 0, bytes_at 1, bytes_at 2, bytes_at 3, bytes_at 4)

  request_same : (c : StationLetters) → request_for c moved ≡ request_for c ps
  request_same Xs = rw (bytes_at 0)
  request_same Xo = rw (bytes_at 0)
  request_same Xp = refl
  request_same Xq = rw (bytes_at 0)
  request_same J1 = refl
  request_same Ws = refl
  request_same Wr = refl

  asks_alike : (c : Letters) → request_by c moved ≡ request_by c ps
  asks_alike (OfLabel c) = ap on_label (action_moved c)
  asks_alike (OfStation c) = request_same c

request_moved : (k : ℕ) (c : CommandSeen) → request_of (shift_plain k c) ≡ request_of c
request_moved k c = asks_alike k c.parts c.letters

-- ---- the reader's answer is the command and the place behind it
read_both : (r : Result (CommandSeen × ℕ) ReadFault) (c : CommandSeen) (n : ℕ) → answer_of r ≡ Ok c → next_of r ≡ n
    → r ≡ Ok (c, n)
read_both (Ok x) c n e h = ap₂ (λ (d : CommandSeen) (m : ℕ). Ok (d, m)) (ok_inj e) h
read_both (Err x) c n e h = not_ok e

pub reader : Reader
reader = record { located = there; cut = alone }
  where
    there : (before w behind : List ℕ) (c : CommandSeen) → Whole w c → length (before ++ (w ++ behind)) ≤ longest_job
        → (d : CommandSeen) × Located (before ++ (w ++ behind)) (length before) c (length w) d
    there before w behind c h short =
        let e : read_job (before ++ (w ++ behind)) (length before)
        ≡ Ok (shift_plain (length before) c, length before + length w) =
        located before w behind c (read_both (read_job w 0) c (length w) h.reads h.ends) short in (
          shift_plain (length before) c,
          record { reads = ap answer_of e; asks = request_moved (length before) c; ends = ap next_of e },
        )

    alone : (job : List ℕ) (at : ℕ) (c : CommandSeen) → read_at job at ≡ Ok c → (d : CommandSeen) × Cut job at c d
    alone job at c e =
        let a : (d : CommandSeen) × Alone job at c (next_at job at) d =
        cut job at c (next_at job at) (read_both (read_job job at) c (next_at job at) e refl) in (
          a.0,
          record {
            whole = record { reads = ap answer_of a.1.reads; ends = ap next_of a.1.reads ∙ sym a.1.long };
            asks = sym (request_moved at a.0) ∙ ap request_of (sym a.1.alike);
            some = a.1.some;
          },
        )
