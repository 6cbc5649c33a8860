-- The turned bytes lie at the front of forty.
use Rattle.std.proofs.Common.{◌≡◌, ℕ, List, ◌++◌, length, take, ℤ, sym, ap, ◌∙◌, subst, w64}
use Rattle.std.proofs.lemmas.Int.{to_z-of_z}
use Rattle.std.proofs.lemmas.List.{take_at}
use Rattle.texts.specs.Wheels.{Wheels}
use Rattle.texts.specs.Turning.{Turned}
use Rattle.texts.proofs.Admitted.{admitted_turned}
use Rattle.texts.proofs.Meant.{turned_text_lem}
use Rattle.texts.proofs.text.Text.turned.Goals as goal

turned_front : (w : Wheels) (s z : ℤ) (n : ℕ) (cells text last post all : List ℕ) → n ≡ length text
    → take (length text) cells ≡ text → z ≡ s
    → Turned w (take n cells) z last → all ≡ take n (last ++ post) → Turned w text s all
turned_front w s z n cells text last post all count front same k e =
    let k' : Turned w text s last = subst (λ t. Turned w t s last) (ap (λ m. take m cells) count
    ∙ front) (subst (λ y. Turned w (take n cells) y last) same k) in
    subst (Turned w text s) (sym (e ∙ take_at last post n (k'.long ∙ sym count))) k'

pub returns-clause-turned : goal.returns-clause-turned
returns-clause-turned g c =
    turned_front _ c.args.step _ c.len-n.result c.to_array-cells.result _ _ _ _ c.len-n.ensures.count
    c.to_array-cells.ensures (to_z-of_z w64 c.args.step c.ranges.step) c.turn_wheels.ensures c.of_front.ensures

pub invariant_of-result : goal.invariant_of-result
invariant_of-result g c =
    let w = g.R.CountingRule.wheels c.args.rule.now in
    let x = c.args.self.now in
    record {
      plain = turned_text_lem w (g.met.R.CountingRule.lawful c.args.rule.now) _ x.plain c.args.step _
          (turned_front w c.args.step _ c.len-n.result c.to_array-cells.result _ _ _ _ c.len-n.ensures.count
          c.to_array-cells.ensures (to_z-of_z w64 c.args.step c.ranges.step) c.turn_wheels.ensures c.of_front.ensures);
    }

pub returns-clause-admitted : goal.returns-clause-admitted
returns-clause-admitted g c =
    admitted_turned (g.R.CountingRule.wheels c.args.rule.now) _ c.args.step _
    (turned_front _ c.args.step _ c.len-n.result c.to_array-cells.result _ _ _ _ c.len-n.ensures.count
    c.to_array-cells.ensures (to_z-of_z w64 c.args.step c.ranges.step) c.turn_wheels.ensures c.of_front.ensures)
