-- A variable that is given pairwise different names, abstracted over them, doesn't depend on which names they are.
use Rattle.std.proofs.Common.{◌≡◌, ℕ, zero, suc, ◌≤◌, List, [], ◌∷◌, map, length, Bool, true, false, cond, refl, sym, ◌∙◌, ap, arith}
use Rattle.std.proofs.lemmas.Bool.{false≢true, or_parts, false_from_ne_true}
use Rattle.ab_term.specs.Types.{Ty, kind, arrow, arity}
use Rattle.ab_term.specs.Terms.{Variable, Head, constant, logical, nominal, variable, index, Term, lam, spine}
use Rattle.ab_term.specs.Substitution.{shift_head}
use Rattle.ab_term.specs.Sameness.{same_head}
use Rattle.ab_term.specs.Abstraction.{among, is_name, close_head, close, close_all, abstracted, name_terms, Distinct}
use Rattle.ab_term.proofs.Shifts.{shift_head-shift_head}
use Rattle.ab_term.proofs.Same.{same_head-Decides, head_itself}
use Rattle.ab_term.proofs.Only.{same_innermost, same_head-shift}
use Rattle.ab_term.proofs.ClosingThrough.{close-name_terms}
use Rattle.ab_unifiers.specs.Patterns.{applied, kept}

no_variable : (z : Variable ℕ) (h : Head ℕ) → is_name h ≡ true → same_head (variable z) h ≡ false
no_variable z (constant c) e = refl
no_variable z (logical l) e = refl
no_variable z (nominal a) e = refl
no_variable z (variable y) e = absurd (false≢true e)
no_variable z (index i) e = refl

module _ {Hint : Type 0} (x : Hint) where
  close-applied : (k : ℕ) (h : Head ℕ) (z : Variable ℕ) (gs : List (Head ℕ)) → is_name h ≡ true → close k h (applied x z gs) ≡ applied x z (map (close_head k h) gs)
  close-applied k h z gs e = ap (λ b. spine (cond b (index k) (variable z)) (close_all k h (name_terms x z.type gs))) (no_variable z h e) ∙ ap (spine (variable z)) (close-name_terms x z.type k h gs)

name-shift : (k : ℕ) (h : Head ℕ) → is_name (shift_head k h) ≡ is_name h
name-shift k (constant c) = refl
name-shift k (logical l) = refl
name-shift k (nominal a) = refl
name-shift k (variable y) = refl
name-shift k (index i) = refl

-- below n binders
abbrev pub deeper : ℕ → ℕ → ℕ
deeper zero k = k
deeper (suc n) k = deeper n (suc k)

abbrev pub shift_by : ℕ → Head ℕ → Head ℕ
shift_by zero h = h
shift_by (suc n) h = shift_by n (shift_head zero h)

module _ {Hint : Type 0} (x : Hint) where
  abbrev pub skeleton : Ty → ℕ → Term ℕ Hint → Term ℕ Hint
  skeleton A zero t = t
  skeleton (kind k) (suc n) t = t
  skeleton (arrow A B) (suc n) t = lam A x (skeleton B n t)

  pub close-skeleton : (A : Ty) (n k : ℕ) (h : Head ℕ) (t : Term ℕ Hint) → n ≤ arity A → close k h (skeleton A n t) ≡ skeleton A n (close (deeper n k) (shift_by n h) t)
  close-skeleton A zero k h t l = refl
  close-skeleton (kind c) (suc n) k h t l = absurd (omega (arith, l))
  close-skeleton (arrow A B) (suc n) k h t l = ap (lam A x) (close-skeleton B n (suc k) (shift_head zero h) t (omega (arith, l)))

-- what a name becomes below the abstractions over the listed ones
abbrev pub renamed : List (Head ℕ) → Head ℕ → Head ℕ
renamed [] g = g
renamed (h ∷ hs) g = close_head (deeper (length hs) zero) (shift_by (length hs) h) (renamed hs g)

map-map : {X Y Z : Type 0} (f : Y → Z) (g : X → Y) (xs : List X) → map f (map g xs) ≡ map (λ x. f (g x)) xs
map-map f g [] = refl
map-map f g (x ∷ xs) = ap (λ l. f (g x) ∷ l) (map-map f g xs)

map-same : {X : Type 0} (xs : List X) → xs ≡ map (λ x. x) xs
map-same [] = refl
map-same (x ∷ xs) = ap (λ l. x ∷ l) (map-same xs)

name-shift_by : (n : ℕ) (h : Head ℕ) → is_name (shift_by n h) ≡ is_name h
name-shift_by zero h = refl
name-shift_by (suc n) h = name-shift_by n (shift_head zero h) ∙ name-shift zero h

module _ {Hint : Type 0} (x : Hint) where
  abstracted-applied : (A : Ty) (hs : List (Head ℕ)) (z : Variable ℕ) (cs : List (Head ℕ)) → Distinct hs → length hs ≤ arity A → abstracted x A hs (applied x z cs) ≡ skeleton x A (length hs) (applied x z (map (renamed hs) cs))
  abstracted-applied A [] z cs d l = ap (applied x z) (map-same cs)
  abstracted-applied (kind c) (h ∷ hs) z cs d l = absurd (omega (arith, l))
  abstracted-applied (arrow A B) (h ∷ hs) z cs d l = ap (lam A x)
      (ap (close zero h) (abstracted-applied B hs z cs d.2 (omega (arith, l)))
      ∙ close-skeleton x B (length hs) zero h (applied x z (map (renamed hs) cs)) (omega (arith, l))
      ∙ ap (skeleton x B (length hs)) (close-applied x (deeper (length hs) zero) (shift_by (length hs) h) z (map (renamed hs) cs) (name-shift_by (length hs) h ∙ d.1)
      ∙ ap (applied x z) (map-map (close_head (deeper (length hs) zero) (shift_by (length hs) h)) (renamed hs) cs)))

-- the names of so many binders, the outermost first
abbrev places : ℕ → List (Head ℕ)
places zero = []
places (suc n) = shift_by n (index zero) ∷ places n

pub shift_by-index : (n k : ℕ) → shift_by n (index k) ≡ index (deeper n k)
shift_by-index zero k = refl
shift_by-index (suc n) k = shift_by-index n (suc k)

pub same_head-shift_by : (n : ℕ) (g h : Head ℕ) → same_head (shift_by n g) (shift_by n h) ≡ same_head g h
same_head-shift_by zero g h = refl
same_head-shift_by (suc n) g h = same_head-shift_by n (shift_head zero g) (shift_head zero h) ∙ same_head-shift g h

pub shift_head-shift_by : (n k : ℕ) (h : Head ℕ) → shift_head (deeper n k) (shift_by n h) ≡ shift_by n (shift_head k h)
shift_head-shift_by zero k h = refl
shift_head-shift_by (suc n) k h = shift_head-shift_by n (suc k) (shift_head zero h) ∙ ap (shift_by n) (shift_head-shift_head zero k h (omega arith))

-- another name is only shifted
close_other : (n k : ℕ) (g h : Head ℕ) → same_head g h ≡ false → close_head (deeper n k) (shift_by n h) (shift_by n g) ≡ shift_by n (shift_head k g)
close_other n k g h e = ap (λ b. cond b (index (deeper n k)) (shift_head (deeper n k) (shift_by n g))) (same_head-shift_by n g h ∙ e) ∙ shift_head-shift_by n k g

same_head-other_way : (g h : Head ℕ) → same_head g h ≡ false → same_head h g ≡ false
same_head-other_way g h e = false_from_ne_true (same_head h g) (λ f. false≢true (sym e ∙ (same_head-Decides g h).1 (sym ((same_head-Decides h g).0 f))))

pub renamed_other : (hs : List (Head ℕ)) (g : Head ℕ) → among hs g ≡ false → renamed hs g ≡ shift_by (length hs) g
renamed_other [] g e = refl
renamed_other (h ∷ hs) g e =
    let parts = or_parts (same_head h g) (among hs g) e in
    ap (close_head (deeper (length hs) zero) (shift_by (length hs) h)) (renamed_other hs g parts.1) ∙ close_other (length hs) zero g h (same_head-other_way h g parts.0)

places_stay : (n k : ℕ) (h : Head ℕ) → map (close_head (deeper n k) (shift_by n h)) (places n) ≡ places n
places_stay zero k h = refl
places_stay (suc n) k h =
    ap (λ g. g ∷ map (close_head (deeper n (suc k)) (shift_by n (shift_head zero h))) (places n)) (close_other n (suc k) (index zero) (shift_head zero h) (same_innermost h))
    ∙ ap (λ l. shift_by n (index zero) ∷ l) (places_stay n (suc k) (shift_head zero h))

renamed_all : (hs : List (Head ℕ)) → Distinct hs → map (renamed hs) hs ≡ places (length hs)
renamed_all [] d = refl
renamed_all (h ∷ hs) d =
    let n = length hs in
    ap (λ g. g ∷ map (renamed (h ∷ hs)) hs)
    (ap (close_head (deeper n zero) (shift_by n h)) (renamed_other hs h d.0)
    ∙ ap (λ b. cond b (index (deeper n zero)) (shift_head (deeper n zero) (shift_by n h))) (head_itself (shift_by n h))
    ∙ sym (shift_by-index n zero))
    ∙ ap (λ l. shift_by n (index zero) ∷ l)
    (sym (map-map (close_head (deeper n zero) (shift_by n h)) (renamed hs) hs)
    ∙ ap (map (close_head (deeper n zero) (shift_by n h))) (renamed_all hs d.2)
    ∙ places_stay n zero h)

map-kept : {X Y : Type 0} (f : X → Y) (keep : List Bool) (xs : List X) → map f (kept keep xs) ≡ kept keep (map f xs)
map-kept f [] xs = refl
map-kept f (b ∷ bs) [] = refl
map-kept f (true ∷ bs) (x ∷ xs) = ap (λ l. f x ∷ l) (map-kept f bs xs)
map-kept f (false ∷ bs) (x ∷ xs) = map-kept f bs xs

module _ {Hint : Type 0} (x : Hint) where
  narrowed_form : (A : Ty) (hs : List (Head ℕ)) (z : Variable ℕ) (keep : List Bool) → Distinct hs → length hs ≤ arity A → abstracted x A hs (applied x z (kept keep hs)) ≡ skeleton x A (length hs) (applied x z (kept keep (places (length hs))))
  narrowed_form A hs z keep d l = abstracted-applied x A hs z (kept keep hs) d l ∙ ap (λ cs. skeleton x A (length hs) (applied x z cs)) (map-kept (renamed hs) keep hs ∙ ap (kept keep) (renamed_all hs d))

  -- with other names in the same number
  pub narrowed_same : (A : Ty) (gs hs : List (Head ℕ)) (z : Variable ℕ) (keep : List Bool) → Distinct gs → Distinct hs → length gs ≡ length hs → length hs ≤ arity A → abstracted x A gs (applied x z (kept keep gs)) ≡ abstracted x A hs (applied x z (kept keep hs))
  narrowed_same A gs hs z keep d e n l =
      narrowed_form A gs z keep d (omega (arith, n, l)) ∙ ap (λ n. skeleton x A n (applied x z (kept keep (places n)))) n ∙ sym (narrowed_form A hs z keep e l)
