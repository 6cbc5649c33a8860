-- Two texts, one behind the other, hold only what a text may hold.
use Rattle.std.proofs.Common.{◌≡◌, ℕ, ◌-◌, ◌≤◌, List, ◌++◌, length, get_or, refl, ap, ◌∙◌, ⊎_elim, arith, length-append, rules}
use Rattle.std.proofs.lemmas.List.{get_or_append_left, get_or-append_right}
use Rattle.std.proofs.lemmas.Bool.{cases_lt}
use Rattle.fixedvec.specs.Items.{items}
use Rattle.limits.specs.Bytes.{in_text}
use Rattle.limits.specs.Limits.{longest_text}
use Rattle.texts.specs.Plain.{IsText}
use Rattle.texts.specs.Contents.{contents}
use Rattle.texts.proofs.text.Text.joined.Goals as goal

both : (a b t : List ℕ) → IsText a → IsText b → t ≡ a ++ b → length t ≤ longest_text → IsText t
both a b t p q e le =
    record {
      short = le;
      plain = λ k lt.
          ap in_text (ap (λ l. get_or l k 0) e)
          ∙ ⊎_elim
          (λ first. ap in_text (get_or_append_left a b 0 k first) ∙ p.plain k first)
          (λ second. ap in_text (get_or-append_right a b (length a) k 0 refl second)
          ∙ q.plain (k - length a) (omega (arith, ap length e, length-append a b)))
          (cases_lt k (length a));
    }

pub invariant_of-result : goal.invariant_of-result
invariant_of-result c =
    let e : items c.extend.new.self ≡ contents c.args.self.now ++ contents c.args.more.now = search rules in
    let le : length (items c.extend.new.self) ≤ longest_text = search rules in
    record { plain = both _ _ _ c.args.self.now.plain c.args.more.now.plain e le }
