-- A form's binders all at once: what stands under them, and what walks over them keep.
use Rattle.std.proofs.Common.{◌≡◌, ℕ, zero, suc, ◌+◌, ◌<◌, ◌≤◌, max, List, [], ◌∷◌, ◌++◌, map, drop, length, get_or, refl, sym, ◌∙◌, ap, subst, append_assoc, length-drop, arith}
use Rattle.std.specs.List.{All}
use Rattle.std.proofs.lemmas.List.{map-append, length-map, at_drop_more}
use Rattle.ab_term.specs.Types.{Ty, kind, arrow}
use Rattle.ab_term.specs.Terms.{Head, constant, logical, nominal, variable, index, lam, spine, no_terms, term, terms_of, with_last, Read}
use Rattle.ab_term.specs.Substitution.{shift_head, shift, shift_all}
use Rattle.ab_term.specs.Reach.{raise_head, raise}
use Rattle.ab_term.specs.Expansion.{expansion_of, expansion}
use Rattle.ab_term.proofs.Expansions.{shift-expansion_of}
use Rattle.ab_term.proofs.Reaching.{raise-none, raise-more}
use Rattle.ab_store.specs.ab_types.specs.Entries.{Table}
use Rattle.ab_store.specs.ab_types.specs.Ids.{type_of}
use Rattle.ab_store.specs.ab_types.specs.declared.ids.TypeId.{TypeId}
use Rattle.ab_store.specs.declared.node.TermId.{TermId}
use Rattle.ab_store.specs.Trees.{Contents, Holds, tree_of}
use Rattle.ab_store.specs.Growth.{IsExtendedBy}
use Rattle.ab_norm.specs.BinderNames.{domains, under, names}
use Rattle.ab_norm.proofs.Bounds.{size, size_positive}
use Rattle.ab_norm.proofs.Frame.{still_read_before}

once : (t : Read) → raise 1 0 t ≡ shift 0 t
once t = raise-more t 0 0 ∙ ap (shift 0) (raise-none t 0)

raise-shift : (n : ℕ) (t : Read) → raise n 0 (shift 0 t) ≡ raise (suc n) 0 t
raise-shift zero t = raise-none (shift 0 t) 0 ∙ sym (once t)
raise-shift (suc n) t = raise-more (shift 0 t) n 0 ∙ ap (shift 0) (raise-shift n t) ∙ sym (raise-more t (suc n) 0)

all_raise-shift : (n : ℕ) (ts : List Read) → map (raise n 0) (map (shift 0) ts) ≡ map (raise (suc n) 0) ts
all_raise-shift n [] = refl
all_raise-shift n (t ∷ ts) = ap (λ r. r ∷ map (raise n 0) (map (shift 0) ts)) (raise-shift n t) ∙ ap (λ l. raise (suc n) 0 t ∷ l) (all_raise-shift n ts)

raise_head-shift : (n : ℕ) (h : Head ℕ) → raise_head n 0 (shift_head 0 h) ≡ raise_head (suc n) 0 h
raise_head-shift n (constant c) = refl
raise_head-shift n (logical l) = refl
raise_head-shift n (nominal a) = refl
raise_head-shift n (variable y) = refl
raise_head-shift n (index i) = ap index (omega arith)

raise_head-none : (h : Head ℕ) → raise_head 0 0 h ≡ h
raise_head-none (constant c) = refl
raise_head-none (logical l) = refl
raise_head-none (nominal a) = refl
raise_head-none (variable y) = refl
raise_head-none (index i) = ap index (omega arith)

all_raise-none : (ts : List Read) → map (raise 0 0) ts ++ [] ≡ ts
all_raise-none [] = refl
all_raise-none (t ∷ ts) = ap (λ r. r ∷ map (raise 0 0) ts ++ []) (raise-none t 0) ∙ ap (λ l. t ∷ l) (all_raise-none ts)

abbrev own : List ℕ → Ty → ℕ → Read
own x A n = expansion x A (index n)

raise-own : (x : List ℕ) (A : Ty) (n : ℕ) → raise n 0 (own x A 0) ≡ own x A n
raise-own x A zero = raise-none (own x A 0) 0
raise-own x A (suc n) = raise-more (own x A 0) n 0 ∙ ap (shift 0) (raise-own x A n) ∙ shift-expansion_of x A 0 (index n) no_terms

shifted_before : (ts : List Read) (t : Read) → with_last (shift_all 0 (terms_of ts)) t ≡ terms_of (map (shift 0) ts ++ t ∷ [])
shifted_before [] t = refl
shifted_before (u ∷ ts) t = ap (term (shift 0 u)) (shifted_before ts t)

-- what stands under the binders
abbrev inside : List ℕ → Ty → Head ℕ → List Read → Read
inside x B h ts = spine (raise_head (length (domains B)) 0 h) (terms_of (map (raise (length (domains B)) 0) ts ++ names x (domains B)))

expansion-under : (x : List ℕ) (B : Ty) (h : Head ℕ) (ts : List Read) → expansion_of x B h (terms_of ts) ≡ under x (domains B) (inside x B h ts)
expansion-under x (kind k) h ts = ap (λ g. spine g (terms_of ts)) (sym (raise_head-none h)) ∙ ap (λ l. spine (raise_head 0 0 h) (terms_of l)) (sym (all_raise-none ts))
expansion-under x (arrow A B) h ts =
    let n = length (domains B) in
    let name = own x A 0 in
    let more : map (raise n 0) (map (shift 0) ts ++ name ∷ []) ++ names x (domains B) ≡ map (raise (suc n) 0) ts ++ own x A n ∷ names x (domains B) =
    ap (λ l. l ++ names x (domains B))
    (map-append (raise n 0) (map (shift 0) ts) (name ∷ [])
    ∙ ap (λ l. l ++ raise n 0 name ∷ []) (all_raise-shift n ts)
    ∙ ap (λ r. map (raise (suc n) 0) ts ++ r ∷ []) (raise-own x A n))
    ∙ append_assoc (map (raise (suc n) 0) ts) (own x A n ∷ []) (names x (domains B)) in
    ap (lam A x)
    (ap (expansion_of x B (shift_head 0 h)) (shifted_before ts name)
    ∙ expansion-under x B (shift_head 0 h) (map (shift 0) ts ++ name ∷ [])
    ∙ ap (λ g. under x (domains B) (spine g (terms_of (map (raise n 0) (map (shift 0) ts ++ name ∷ []) ++ names x (domains B))))) (raise_head-shift n h)
    ∙ ap (λ l. under x (domains B) (spine (raise_head (suc n) 0 h) (terms_of l))) more)

-- the form, from what was made for it
pub formed : (x : List ℕ) (A : Ty) (As Bs : List Ty) (h g : Head ℕ) (ts us vs : List Read) (n : ℕ) (body r : Read)
    → As ≡ domains A → Bs ≡ As → n ≡ length As → g ≡ raise_head n 0 h → us ≡ map (raise n 0) ts → vs ≡ us ++ names x Bs
    → body ≡ spine g (terms_of vs) → r ≡ under x As body → r ≡ expansion_of x A h (terms_of ts)
formed x A As Bs h g ts us vs n body r all same count head raised named made whole =
    let m = length (domains A) in
    let many : n ≡ m = count ∙ ap length all in
    whole
    ∙ ap (under x As)
    (made
    ∙ ap (λ i. spine i (terms_of vs)) (head ∙ ap (λ k. raise_head k 0 h) many)
    ∙ ap (λ l. spine (raise_head m 0 h) (terms_of l))
    (named ∙ ap (λ l. l ++ names x Bs) (raised ∙ ap (λ k. map (raise k 0) ts) many) ∙ ap (λ l. map (raise m 0) ts ++ names x l) (same ∙ all)))
    ∙ ap (λ l. under x l (inside x A h ts)) all
    ∙ sym (expansion-under x A h ts)

-- the walks over the binders

pub one_domain : {X : Type 0} (f : X → Ty) (done more : List X) (from : X) (A B : Ty) (whole : List Ty) → more ≡ done ++ from ∷ [] → A ≡ arrow (f from) B
    → map f done ++ domains A ≡ whole → map f more ++ domains B ≡ whole
one_domain f done more from A B whole push is so_far =
    ap (λ l. map f l ++ domains B) push
    ∙ ap (λ l. l ++ domains B) (map-append f done (from ∷ []))
    ∙ append_assoc (map f done) (f from ∷ []) (domains B)
    ∙ ap (λ C. map f done ++ domains C) (sym is)
    ∙ so_far

under-last : (x : List ℕ) (As : List Ty) (A : Ty) (t : Read) → under x (As ++ A ∷ []) t ≡ under x As (lam A x t)
under-last x [] A t = refl
under-last x (B ∷ As) A t = ap (lam B x) (under-last x As A t)

pub one_under : {X : Type 0} (x : List ℕ) (f : X → Ty) (left fewer : List X) (a : X) (t u whole : Read) → left ≡ fewer ++ a ∷ [] → u ≡ lam (f a) x t
    → under x (map f left) t ≡ whole → under x (map f fewer) u ≡ whole
one_under x f left fewer a t u whole pop is so_far =
    ap (under x (map f fewer)) is
    ∙ sym (ap (λ l. under x (map f l) t) pop ∙ ap (λ l. under x l t) (map-append f fewer (a ∷ [])) ∙ under-last x (map f fewer) (f a) t)
    ∙ so_far

pub one_name : (types : Table) (s1 s2 : Contents) (x : List ℕ) (ids : List TypeId) (i k : ℕ) (d : TypeId) (given more : List TermId) (name : TermId) (whole : List Read)
    → i < length ids → k + (i + 1) ≡ length ids → All (Holds s1) given → IsExtendedBy s1 s2 → more ≡ given ++ name ∷ []
    → tree_of types s2 name ≡ own x (type_of types (get_or ids i d)) k
    → map (tree_of types s1) given ++ names x (map (type_of types) (drop i ids)) ≡ whole
    → map (tree_of types s2) more ++ names x (map (type_of types) (drop (i + 1) ids)) ≡ whole
one_name types s1 s2 x ids i k d given more name whole l count held grown push is so_far =
    let rest = names x (map (type_of types) (drop (i + 1) ids)) in
    let inner : k ≡ length (map (type_of types) (drop (i + 1) ids)) = omega (arith, length-map (drop (i + 1) ids) (type_of types), length-drop (i + 1) ids) in
    ap (λ l. map (tree_of types s2) l ++ rest) push
    ∙ ap (λ l. l ++ rest) (map-append (tree_of types s2) given (name ∷ []))
    ∙ append_assoc (map (tree_of types s2) given) (tree_of types s2 name ∷ []) rest
    ∙ ap (λ l. l ++ tree_of types s2 name ∷ rest) (still_read_before types s1 s2 given grown held)
    ∙ ap (λ t. map (tree_of types s1) given ++ t ∷ rest) (is ∙ ap (own x (type_of types (get_or ids i d))) inner)
    ∙ ap (λ l. map (tree_of types s1) given ++ l) (sym (at_drop_more (λ l. names x (map (type_of types) l)) ids i d l))
    ∙ so_far

-- the size of the largest type
abbrev pub most : List Ty → ℕ
most [] = 0
most (A ∷ As) = max (size A) (most As)

domains_smaller : (A : Ty) → most (domains A) < size A
domains_smaller (kind k) = omega arith
domains_smaller (arrow A B) = omega (arith, domains_smaller B, size_positive B)

pub most_smaller : {X : Type 0} (f : X → Ty) (xs ys : List X) (A : Ty) → ys ≡ xs → map f xs ≡ domains A → most (map f ys) < size A
most_smaller f xs ys A same all = subst (λ l. most l < size A) (sym (ap (map f) same ∙ all)) (domains_smaller A)

pub most_within : {X : Type 0} (f : X → Ty) (xs : List X) (i : ℕ) (d : X) → i < length xs → size (f (get_or xs i d)) ≤ most (map f xs)
most_within f [] i d l = absurd (omega arith)
most_within f (x ∷ xs) zero d l = omega arith
most_within f (x ∷ xs) (suc i) d l = omega (arith, most_within f xs i d (omega arith))
