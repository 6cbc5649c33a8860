-- White, then every drawing, then the cut: every dot is known, and so is every byte.
use Rattle.std.proofs.Common.{◌≡◌, ℕ, ◌≤◌, ◌++◌, false, ltb, length, drop, sym, ap, ◌∙◌, arith}
use Rattle.std.proofs.lemmas.List.{length-append, length-drop, get_or_append_left}
use Rattle.std.proofs.lemmas.Bool.{cond-false, le-ltb}
use Rattle.limits.specs.Limits.{picture_bytes}
use Rattle.picture.specs.Picture.{white, picture}
use Rattle.picture.proofs.Rows.{redrawn_then}
use Rattle.picture.proofs.Whole.{whole}
use Rattle.picture.proofs.draw.Goals as goal

pub returns : goal.returns
returns c =
    let dots = c.args.dots.now in
    let pic = picture white c.args.drawings.now c.args.label_width c.args.label_length in
    let long : picture_bytes ≤ length dots = c.in-Some.ensures.cases.enough in
    let not : ltb (length dots) picture_bytes ≡ false = le-ltb (length dots) picture_bytes long in
    let same : length c.cut.new.dots ≡ picture_bytes = omega (arith, length-append {A = ℕ}, length-drop {A = ℕ}) in
    record {
      answer = sym (cond-false _ _ _ not);
      bytes =
          ap (λ bs. bs ++ drop picture_bytes dots)
          (whole pic c.in-Some.front.now c.cut.new.dots same
          (λ k lt.
          let at = get_or_append_left c.cut.new.dots (drop picture_bytes dots) 0 k (omega arith) in
          omega (arith, (c.type_inv.dots k).fits, at))
          (redrawn_then _ _ _ _ _ (redrawn_then _ _ _ _ _ c.whiten.ensures c.draw_all.ensures) c.cut.ensures))
          ∙ sym (cond-false _ _ _ not);
    }
