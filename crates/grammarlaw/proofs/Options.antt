-- Options: a comma, a byte that tells the option, and digits.
use Rattle.std.proofs.Common.{◌≡◌, ℕ, ◌+◌, Bool, true, false, cond, not, eqb, List, [], ◌∷◌, ◌++◌, map, length, replicate, Ok, Err, Result, sym, refl, ap, ◌∙◌, arith, subst}
use Rattle.std.proofs.lemmas.Bool.{eqb-true, eqb-false, lt-ltb, cond-true, cond-false, both_ways}
use Rattle.jobparts.specs.Items.{part_at, left_out as passed_over}
use Rattle.jobparts.specs.Kinds.{stands}
use Rattle.jobparts.specs.Parts.{PartSeen, missing, given, Got, bytes_of, then, wrong_byte, not_admitted}
use Rattle.jobparts.specs.declared.part.ByteKind.TheVariants.{Digit}
use Rattle.jobparts.specs.declared.part.Wrong.{Wrong}
use Rattle.grammarlaw.specs.Bodies.{GoesOnAs, Breaks}
use Rattle.grammarlaw.specs.Right.{Sized, Split, RightOption, absent, sent as right_sent, AllRight}
use Rattle.grammarlaw.specs.Rows.{Step}
use Rattle.grammarlaw.specs.Written.{Rule, WritesOption, left_out, sent, left_over}
use Rattle.grammarlaw.specs.Refused.{RefusedOption}
use Rattle.grammarlaw.proofs.Parts.{PartCase, whole, short, part_case}
use Rattle.grammarlaw.proofs.Breaking.{samples, sample, breaks_behind, sized_only, breaks_short}
use Rattle.grammarlaw.proofs.Coming.{FirstComes, pass_on, byte_on, value_on}
use Rattle.grammarlaw.proofs.Plain.{Later, stands_here}

-- how both kinds of options are read; g is what becomes of the digits
abbrev pub option_at : (ℕ → Bool) → ℕ → (List ℕ → Got → Result Got Wrong) → Bool → List ℕ → Result Got Wrong
option_at f n g last rest =
    cond (stands (eqb 44) rest 0)
    (cond (stands f rest 1) (then (part_at Digit n rest 2) (g rest)) (passed_over last 0 1))
    (Ok (missing ∷ [], 0))

pub data OptionCase (f : ℕ → Bool) (rest : List ℕ) : Type 0 where
  none : stands (eqb 44) rest 0 ≡ false → ((w : List ℕ) → rest ≡ 44 ∷ w → ⊥) → OptionCase f rest
  unlike : (t : List ℕ) → rest ≡ 44 ∷ t → stands f rest 1 ≡ false →
      ((c : ℕ) (w : List ℕ) → t ≡ c ∷ w → f c ≡ false) → OptionCase f rest
  given_as : (c : ℕ) (t : List ℕ) → rest ≡ 44 ∷ c ∷ t → f c ≡ true → OptionCase f rest

stands_next : (f : ℕ → Bool) (b c : ℕ) (bs : List ℕ) → stands f (b ∷ c ∷ bs) 1 ≡ f c
stands_next f b c bs = cond-true _ _ _ (lt-ltb 1 (length (b ∷ c ∷ bs)) (omega arith))

second_by : (f : ℕ → Bool) (b c : ℕ) (t : List ℕ) (u : Bool) → f c ≡ u → 44 ≡ b → OptionCase f (b ∷ c ∷ t)
second_by f b c t true e is = given_as c t (ap (λ x. x ∷ c ∷ t) (sym is)) e
second_by f b c t false e is =
    unlike (c ∷ t) (ap (λ x. x ∷ c ∷ t) (sym is)) (stands_next f b c t ∙ e)
    (λ d w same. let h : c ≡ d = cc in ap f (sym h) ∙ e)

first_by : (f : ℕ → Bool) (b : ℕ) (t : List ℕ) (u : Bool) → eqb 44 b ≡ u → OptionCase f (b ∷ t)
first_by f b t false e =
    none (stands_here (eqb 44) b t ∙ e) (λ w same. let h : b ≡ 44 = cc in eqb-false 44 b e (sym h))
first_by f b [] true e = unlike [] (ap (λ x. x ∷ []) (sym (eqb-true 44 b e))) refl (λ c w same. absurd (cc))
first_by f b (c ∷ t) true e = second_by f b c t (f c) refl (eqb-true 44 b e)

pub option_case : (f : ℕ → Bool) (rest : List ℕ) → OptionCase f rest
option_case f [] = none refl (λ w same. cc)
option_case f (b ∷ t) = first_by f b t (eqb 44 b) refl

pub option_absent : (f : ℕ → Bool) (n : ℕ) (g : List ℕ → Got → Result Got Wrong) (last : Bool) (rest : List ℕ)
    → stands (eqb 44) rest 0 ≡ false →
    option_at f n g last rest ≡ Ok (missing ∷ [], 0)
option_absent f n g last rest e = cond-false _ _ _ e

pub option_other : (f : ℕ → Bool) (n : ℕ) (g : List ℕ → Got → Result Got Wrong) (last : Bool) (t : List ℕ) →
    stands f (44 ∷ t) 1 ≡ false →
    option_at f n g last (44 ∷ t) ≡ passed_over last 0 1
option_other f n g last t e = cond-true _ _ _ (stands_here (eqb 44) 44 t) ∙ cond-false _ _ _ e

pub option_led : (f : ℕ → Bool) (n : ℕ) (g : List ℕ → Got → Result Got Wrong) (last : Bool) (c : ℕ)
    (t : List ℕ) → f c ≡ true →
    option_at f n g last (44 ∷ c ∷ t) ≡ then (part_at Digit n (44 ∷ c ∷ t) 2) (g (44 ∷ c ∷ t))
option_led f n g last c t e = cond-true _ _ _ (stands_here (eqb 44) 44 (c ∷ t))
    ∙ cond-true _ _ _ (stands_next f 44 c t ∙ e)

-- no body of A begins with a comma and a byte that passes f
abbrev pub Apart : (ℕ → Bool) → (List ℕ → Type 0) → Type 0
Apart f A = (c : ℕ) (w : List ℕ) → f c ≡ true → A (44 ∷ c ∷ w) → ⊥

abbrev pub WithOption : (ℕ → Bool) → ℕ → (List ℕ → Type 0) → List ℕ → Type 0
WithOption f n A = Split (RightOption f n) A

skip : {f : ℕ → Bool} {n : ℕ} {A : List ℕ → Type 0} (w : List ℕ) → A w → WithOption f n A w
skip w a = record { mine = []; theirs = w; whole = refl; first = absent refl; later = a }

-- a body with the option, or one of A
pub data Opened (f : ℕ → Bool) (n : ℕ) (A : List ℕ → Type 0) (w : List ℕ) : Type 0 where
  without : A w → Opened f n A w
  with : (c : ℕ) (t : List ℕ) → w ≡ 44 ∷ c ∷ t → f c ≡ true → Split (Sized Digit n) A t → Opened f n A w

opened_by : {f : ℕ → Bool} {n : ℕ} {A : List ℕ → Type 0} (w mine theirs : List ℕ) → w ≡ mine ++ theirs →
    A theirs → RightOption f n mine → Opened f n A w
opened_by {A = A} w mine theirs joined a (absent e) = without (subst A (sym (joined ∙ ap (λ m. m ++ theirs) e)) a)
opened_by w mine theirs joined a (right_sent c ds e led sized) =
    with c (ds ++ theirs) (joined ∙ ap (λ m. m ++ theirs) e) led
    (record { mine = ds; theirs = theirs; whole = refl; first = sized; later = a })

pub opened : {f : ℕ → Bool} {n : ℕ} {A : List ℕ → Type 0} (w : List ℕ) → WithOption f n A w → Opened f n A w
opened w s = opened_by w s.mine s.theirs s.whole s.later s.first

sent_on : {f : ℕ → Bool} {n : ℕ} {A : List ℕ → Type 0} (c : ℕ) (t : List ℕ) → f c ≡ true →
    Split (Sized Digit n) A t → WithOption f n A (44 ∷ c ∷ t)
sent_on c t led s =
    record {
      mine = 44 ∷ c ∷ s.mine;
      theirs = s.theirs;
      whole = ap (λ (x : List ℕ). 44 ∷ c ∷ x) s.whole;
      first = right_sent c s.mine refl led s.first;
      later = s.later;
    }

-- the option is given, and behind its letter bodies break
led_ends : {f : ℕ → Bool} {n : ℕ} {A : List ℕ → Type 0} (c : ℕ) (t : List ℕ) → f c ≡ true → Apart f A →
    Opened f n A (44 ∷ c ∷ t) → Split (Sized Digit n) A t
led_ends c t led apart (without a) = absurd (apart c t led a)
led_ends {n = n} {A = A} c t led apart (with d u e led' s) = let same : u ≡ t = cc in
    subst (Split (Sized Digit n) A) same s

pub breaks_led : {f : ℕ → Bool} {n : ℕ} {A : List ℕ → Type 0} (c : ℕ) (front tail : List ℕ) → f c ≡ true → Apart f A →
    Breaks (Split (Sized Digit n) A) front tail → Breaks (WithOption f n A) (44 ∷ c ∷ front) tail
breaks_led c front tail led apart b =
    record {
      goes = (b.goes.0, sent_on c (front ++ b.goes.0) led b.goes.1);
      ends = λ x same w. b.ends x same (led_ends c (front ++ x) led apart (opened (44 ∷ c ∷ (front ++ x)) w));
    }

passed_ends : {f : ℕ → Bool} {n : ℕ} {A : List ℕ → Type 0} (front tail x : List ℕ) →
    ((x : List ℕ) (c : ℕ) (t : List ℕ) → GoesOnAs tail x → front ++ x ≡ 44 ∷ c ∷ t → f c ≡ true → ⊥) →
    Breaks A front tail → GoesOnAs tail x → Opened f n A (front ++ x) → ⊥
passed_ends front tail x never b same (without a) = b.ends x same a
passed_ends front tail x never b same (with c t e led s) = never x c t same e led

-- the option is not given: whatever goes on as the body does has no option either
pub breaks_passed : {f : ℕ → Bool} {n : ℕ} {A : List ℕ → Type 0} (front tail : List ℕ) →
    ((x : List ℕ) (c : ℕ) (t : List ℕ) → GoesOnAs tail x → front ++ x ≡ 44 ∷ c ∷ t → f c ≡ true → ⊥) →
    Breaks A front tail → Breaks (WithOption f n A) front tail
breaks_passed front tail never b =
    record {
      goes = (b.goes.0, skip (front ++ b.goes.0) b.goes.1);
      ends = λ x same w. passed_ends front tail x never b same (opened (front ++ x) w);
    }

byte_ends : {f : ℕ → Bool} (x t : List ℕ) (d : ℕ) (u : List ℕ) →
    ((d : ℕ) (w : List ℕ) → t ≡ d ∷ w → f d ≡ false) → GoesOnAs t x → x ≡ d ∷ u → f d ≡ true → ⊥
byte_ends [] [] d u other same e led = cc
byte_ends (y ∷ x) [] d u other same e led = same
byte_ends [] (b ∷ t) d u other same e led = same
byte_ends {f = f} (y ∷ x) (b ∷ t) d u other same e led =
    let head : b ≡ d = cc in
    both_ways (f d) (other d t (ap (λ z. z ∷ t) head)) led

last_ends : {f : ℕ → Bool} {n : ℕ} {A : List ℕ → Type 0} (x t : List ℕ) → ((w : List ℕ) → A (44 ∷ w) → ⊥) →
    ((d : ℕ) (w : List ℕ) → t ≡ d ∷ w → f d ≡ false) → GoesOnAs t x → Opened f n A (44 ∷ x) → ⊥
last_ends x t empty other same (without a) = empty x a
last_ends {f = f} x t empty other same (with d u e led s) = byte_ends {f = f} x t d u other same (cc) led

-- a comma, and then no byte that tells the last option
pub breaks_last : {f : ℕ → Bool} {n : ℕ} {A : List ℕ → Type 0} (c : ℕ) (t : List ℕ) → f c ≡ true →
    ((w : List ℕ) × A w) → ((w : List ℕ) → A (44 ∷ w) → ⊥) →
    ((d : ℕ) (w : List ℕ) → t ≡ d ∷ w → f d ≡ false) → Breaks (WithOption f n A) (44 ∷ []) t
breaks_last {n = n} c t led some empty other =
    record {
      goes = (
        c ∷ (replicate n (sample Digit) ++ some.0),
        sent_on c (replicate n (sample Digit) ++ some.0) led
            (record {
              mine = replicate n (sample Digit);
              theirs = some.0;
              whole = refl;
              first = samples Digit n;
              later = some.1;
            }),
      );
      ends = λ x same w. last_ends x t empty other same (opened (44 ∷ x) w);
    }

-- what becomes of the digits
abbrev pub Becomes : (ℕ → Bool) → ℕ → (List ℕ → Got → Result Got Wrong) → Rule → (ℕ → List ℕ → PartSeen) → Type 0
Becomes f n g rule as_part =
    (c : ℕ) (ds theirs : List ℕ) → length ds ≡ n →
    g (44 ∷ c ∷ (ds ++ theirs)) (given 2 ds ∷ [], 2 + n) ≡ cond (rule ds theirs) (Ok (as_part c ds ∷ [], 2 + n))
    (Err (not_admitted 2))

abbrev pub OptionComes : (ℕ → Bool) → ℕ → (List ℕ → Got → Result Got Wrong) → Rule → (ℕ → List ℕ → PartSeen) →
    Bool → List Step → List (List ℕ) → List ℕ → Type 0
OptionComes f n g rule as_part last s e rest =
    FirstComes (RightOption f n) (λ e. WritesOption f n rule as_part last) (RefusedOption f n rule rest) s e rest
    (option_at f n g last rest)

-- what must be known of the steps behind an option
pub record Behind (f : ℕ → Bool) (last : Bool) (s : List Step) : Type 0 where
  pub letter : (c : ℕ) × (f c ≡ true)
  pub some : (w : List ℕ) × AllRight s w
  pub apart : Apart f (AllRight s)
  pub none : last ≡ true → (w : List ℕ) → AllRight s (44 ∷ w) → ⊥
  pub next : last ≡ false → (w : List ℕ) × AllRight s (44 ∷ w)
  pub later : Later s

led_whole : (f : ℕ → Bool) (n : ℕ) (g : List ℕ → Got → Result Got Wrong) (rule : Rule)
    (as_part : ℕ → List ℕ → PartSeen) (last : Bool) (s : List Step) (e : List (List ℕ)) (rest : List ℕ) (c : ℕ)
    (ds theirs : List ℕ) →
    rest ≡ 44 ∷ c ∷ (ds ++ theirs) → f c ≡ true → Sized Digit n ds → Behind f last s → (t : Bool) →
    rule ds theirs ≡ t →
    option_at f n g last rest ≡ cond t (Ok (as_part c ds ∷ [], 2 + n)) (Err (not_admitted 2)) →
    OptionComes f n g rule as_part last s e rest
led_whole f n g rule as_part last s e rest c ds theirs cut is sized b true ok got =
    pass_on (RightOption f n) (λ e. WritesOption f n rule as_part last) (RefusedOption f n rule rest) s e
    (as_part c ds ∷ []) (44 ∷ c ∷ ds) theirs rest _ cut
    (got ∙ ap (λ m. Ok (as_part c ds ∷ [], m)) (let l : 2 + n ≡ length (44 ∷ c ∷ ds) = omega (arith, sized.count) in l))
    (sent c ds refl refl is sized ok)
    (λ front tail cut' br. breaks_led c (ds ++ front) tail is b.apart
    (breaks_behind ds front tail sized (sized_only (AllRight s) Digit n ds sized) br))
    (b.later (e ++ map bytes_of (as_part c ds ∷ [])) theirs)
led_whole f n g rule as_part last s e rest c ds theirs cut is sized b false ok got =
    value_on (RightOption f n) (λ e. WritesOption f n rule as_part last) (RefusedOption f n rule rest) s e rest 2 _ got
    (record { c = c; digits = ds; behind = theirs; whole = cut; led = is; sized = sized; refused = ok; place = refl })

led_by : (f : ℕ → Bool) (n : ℕ) (g : List ℕ → Got → Result Got Wrong) (rule : Rule) (as_part : ℕ → List ℕ → PartSeen)
    (last : Bool) (s : List Step) (e : List (List ℕ)) (c : ℕ) (t : List ℕ) →
    f c ≡ true → Becomes f n g rule as_part → Behind f last s →
    PartCase Digit n t 2 (part_at Digit n (44 ∷ c ∷ t) 2) → OptionComes f n g rule as_part last s e (44 ∷ c ∷ t)
led_by f n g rule as_part last s e c t is becomes b (whole ds theirs cut sized got) =
    let rest = 44 ∷ c ∷ t in
    let same : rest ≡ 44 ∷ c ∷ (ds ++ theirs) = ap (λ (x : List ℕ). 44 ∷ c ∷ x) cut in
    led_whole f n g rule as_part last s e rest c ds theirs same is sized b (rule ds theirs) refl
    (option_led f n g last c t is ∙ ap (λ r. then r (g rest)) got ∙ ap (λ x. g x (given 2 ds ∷ [], 2 + n)) same
    ∙ becomes c ds theirs sized.count)
led_by f n g rule as_part last s e c t is becomes b (short front tail cut kind lt stops got) =
    byte_on (RightOption f n) (λ e. WritesOption f n rule as_part last) (RefusedOption f n rule (44 ∷ c ∷ t)) s e
    (44 ∷ c ∷ t) (44 ∷ c ∷ front) tail _
    (ap (λ (x : List ℕ). 44 ∷ c ∷ x) cut)
    (option_led f n g last c t is ∙ ap (λ r. then r (g (44 ∷ c ∷ t))) got
    ∙ ap (λ m. Err (wrong_byte m)) (let l : 2 + length front ≡ length (44 ∷ c ∷ front) = omega arith in l))
    (breaks_led c front tail is b.apart (breaks_short Digit n front tail b.some kind lt stops))

-- the option is left out, and what stands there is read on
out_on : (f : ℕ → Bool) (n : ℕ) (g : List ℕ → Got → Result Got Wrong) (rule : Rule) (as_part : ℕ → List ℕ → PartSeen)
    (last : Bool) (s : List Step) (e : List (List ℕ)) (rest : List ℕ) →
    Behind f last s → option_at f n g last rest ≡ Ok (missing ∷ [], 0) → left_over f last rest ≡ true →
    ((front tail : List ℕ) → rest ≡ front ++ tail → Breaks (AllRight s) front tail →
    (x : List ℕ) (c : ℕ) (t : List ℕ) → GoesOnAs tail x → front ++ x ≡ 44 ∷ c ∷ t → f c ≡ true → ⊥) →
    OptionComes f n g rule as_part last s e rest
out_on f n g rule as_part last s e rest b got over never =
    pass_on (RightOption f n) (λ e. WritesOption f n rule as_part last) (RefusedOption f n rule rest) s e
    (missing ∷ []) [] rest rest _ refl got
    (left_out refl refl over)
    (λ front tail cut br. breaks_passed front tail (never front tail cut br) br)
    (b.later (e ++ map bytes_of (missing ∷ [])) rest)

never_comma : (f : ℕ → Bool) (rest : List ℕ) → ((w : List ℕ) → rest ≡ 44 ∷ w → ⊥) → (front tail : List ℕ) →
    rest ≡ front ++ tail →
    (x : List ℕ) (c : ℕ) (t : List ℕ) → GoesOnAs tail x → front ++ x ≡ 44 ∷ c ∷ t → f c ≡ true → ⊥
never_comma f rest free [] [] cut [] c t same e led = cc
never_comma f rest free [] [] cut (y ∷ x) c t same e led = same
never_comma f rest free [] (d ∷ tail) cut [] c t same e led = same
never_comma f rest free [] (d ∷ tail) cut (y ∷ x) c t same e led =
    free tail (let h : d ≡ 44 = cc in cut ∙ ap (λ z. z ∷ tail) h)
never_comma f rest free (d ∷ front) tail cut x c t same e led =
    free (front ++ tail) (let h : d ≡ 44 = cc in cut ∙ ap (λ z. z ∷ (front ++ tail)) h)

-- a comma that another option may follow
never_other : (f : ℕ → Bool) (A : List ℕ → Type 0) (u : List ℕ) → ((w : List ℕ) × A (44 ∷ w)) →
    ((c : ℕ) (w : List ℕ) → u ≡ c ∷ w → f c ≡ false) →
    (front tail : List ℕ) → 44 ∷ u ≡ front ++ tail → Breaks A front tail →
    (x : List ℕ) (c : ℕ) (t : List ℕ) → GoesOnAs tail x → front ++ x ≡ 44 ∷ c ∷ t → f c ≡ true → ⊥
never_other f A u next other [] [] cut br x c t same e led = cc
never_other f A u next other [] (d ∷ tail) cut br x c t same e led = let h : 44 ≡ d = cc in
    br.ends (44 ∷ next.0) h next.1
never_other f A u next other (h ∷ []) [] cut br [] c t same e led = cc
never_other f A u next other (h ∷ []) [] cut br (y ∷ x) c t same e led = same
never_other f A u next other (h ∷ []) (d ∷ tail) cut br [] c t same e led = same
never_other f A u next other (h ∷ []) (d ∷ tail) cut br (y ∷ x) c t same e led =
    let second : d ≡ c = cc in
    let front : u ≡ c ∷ tail = cc in
    both_ways (f c) (other c tail front) led
never_other f A u next other (h ∷ k ∷ front) tail cut br x c t same e led =
    let second : k ≡ c = cc in
    let front' : u ≡ c ∷ (front ++ tail) = cc in
    both_ways (f c) (other c (front ++ tail) front') led

over_bare : (f : ℕ → Bool) (last : Bool) (rest : List ℕ) → stands (eqb 44) rest 0 ≡ false →
    left_over f last rest ≡ true
over_bare f last rest e = ap (λ t. not (cond t (cond last true (stands f rest 1)) false)) e

over_other : (f : ℕ → Bool) (u : List ℕ) → stands f (44 ∷ u) 1 ≡ false → left_over f false (44 ∷ u) ≡ true
over_other f u e = ap (λ t. not (cond t (stands f (44 ∷ u) 1) false)) (stands_here (eqb 44) 44 u) ∙ ap not e

other_by : (f : ℕ → Bool) (n : ℕ) (g : List ℕ → Got → Result Got Wrong) (rule : Rule)
    (as_part : ℕ → List ℕ → PartSeen) (last : Bool) (s : List Step) (e : List (List ℕ)) (u : List ℕ) →
    stands f (44 ∷ u) 1 ≡ false → ((c : ℕ) (w : List ℕ) → u ≡ c ∷ w → f c ≡ false) → Behind f last s →
    OptionComes f n g rule as_part last s e (44 ∷ u)
other_by f n g rule as_part true s e u free other b =
    byte_on (RightOption f n) (λ e. WritesOption f n rule as_part true) (RefusedOption f n rule (44 ∷ u)) s e
    (44 ∷ u) (44 ∷ []) u _ refl
    (option_other f n g true u free)
    (breaks_last b.letter.0 u b.letter.1 b.some (b.none refl) other)
other_by f n g rule as_part false s e u free other b =
    out_on f n g rule as_part false s e (44 ∷ u) b (option_other f n g false u free) (over_other f u free)
    (never_other f (AllRight s) u (b.next refl) other)

option_by : (f : ℕ → Bool) (n : ℕ) (g : List ℕ → Got → Result Got Wrong) (rule : Rule)
    (as_part : ℕ → List ℕ → PartSeen) (last : Bool) (s : List Step) (e : List (List ℕ)) (rest : List ℕ) →
    Becomes f n g rule as_part → Behind f last s → OptionCase f rest → OptionComes f n g rule as_part last s e rest
option_by f n g rule as_part last s e rest becomes b (none bare free) =
    out_on f n g rule as_part last s e rest b (option_absent f n g last rest bare) (over_bare f last rest bare)
    (λ front tail cut br. never_comma f rest free front tail cut)
option_by f n g rule as_part last s e rest becomes b (unlike u is free other) =
    subst (λ bs. OptionComes f n g rule as_part last s e bs) (sym is)
    (other_by f n g rule as_part last s e u (ap (λ bs. stands f bs 1) (sym is) ∙ free) other b)
option_by f n g rule as_part last s e rest becomes b (given_as c t is led) =
    subst (λ bs. OptionComes f n g rule as_part last s e bs) (sym is)
    (led_by f n g rule as_part last s e c t led becomes b (part_case Digit n (44 ∷ c ∷ t) 2))

pub option_comes : (f : ℕ → Bool) (n : ℕ) (g : List ℕ → Got → Result Got Wrong) (rule : Rule)
    (as_part : ℕ → List ℕ → PartSeen) (last : Bool) (s : List Step) (e : List (List ℕ)) (rest : List ℕ) →
    Becomes f n g rule as_part → Behind f last s → OptionComes f n g rule as_part last s e rest
option_comes f n g rule as_part last s e rest becomes b =
    option_by f n g rule as_part last s e rest becomes b (option_case f rest)
