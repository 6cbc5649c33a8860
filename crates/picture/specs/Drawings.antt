-- What drawings make of a dot, black (true) or white (false). Rows count downwards and columns to the right, from 0.
--   boxed a b r c    row r, column c lies in the box with the corners a and b, its sides included
--   covers d r c     the drawing d touches the dot at row r, column c
--   acts d r c dot   what d makes of that dot
use Rattle.std.specs.Prelude.{ℕ, Bool, true, false, cond, not, ◌&&◌, ◌||◌}
use Rattle.picture.specs.Places.{amid, band, near}
use Rattle.picture.specs.declared.drawing.Drawing.{Drawing}
use Rattle.picture.specs.declared.drawing.Drawing.TheVariants.{Level, Upright, Rectangle, Clear, Invert}
use Rattle.picture.specs.declared.drawing.Point.{Point}

abbrev pub boxed : Point → Point → ℕ → ℕ → Bool
boxed a b r c = amid a.y b.y r && amid a.x b.x c

-- lines and boxes include their ends; a rectangle's thickness goes inwards
abbrev pub covers : Drawing → ℕ → ℕ → Bool
covers (Level y from to thick) r c = band y thick r && amid from to c
covers (Upright x from to thick) r c = amid from to r && band x thick c
covers (Rectangle a b thick) r c = boxed a b r c && (near thick a.y b.y r || near thick a.x b.x c)
covers (Clear a b) r c = boxed a b r c
covers (Invert a b) r c = boxed a b r c

-- lines and rectangles blacken what they cover
abbrev pub acts : Drawing → ℕ → ℕ → Bool → Bool
acts (Level y from to thick) r c dot = cond (covers (Level y from to thick) r c) true dot
acts (Upright x from to thick) r c dot = cond (covers (Upright x from to thick) r c) true dot
acts (Rectangle a b thick) r c dot = cond (covers (Rectangle a b thick) r c) true dot
acts (Clear a b) r c dot = cond (covers (Clear a b) r c) false dot
acts (Invert a b) r c dot = cond (covers (Invert a b) r c) (not dot) dot
