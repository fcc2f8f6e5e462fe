-- The names of a list of arguments: the first and the rest.
use Rattle.std.proofs.Common.{◌≡◌, ℕ, suc, ◌-◌, ◌<◌, ◌≤◌, List, [], ◌∷◌, map, take, drop, length, Option, Some, None, slice_index_or, refl, sym, ◌∙◌, ap, subst, arith, take_all}
use Rattle.std.specs.Prelude.{Vec}
use Rattle.std.specs.Global.{Global}
use Rattle.std.specs.List.{All}
use Rattle.std.proofs.lemmas.List.Elements.{All-tail, All-weaker}
use Rattle.ab_term.specs.Types.{Ty, arrow}
use Rattle.ab_term.specs.Terms as tree
use Rattle.ab_term.specs.Terms.{term, terms_of, Read}
use Rattle.ab_norm.specs.ab_types.specs.Entries.{Table}
use Rattle.ab_norm.specs.ab_store.specs.declared.node.TermId.{TermId}
use Rattle.ab_norm.specs.ab_store.specs.declared.node.Head.{Head}
use Rattle.ab_norm.specs.ab_store.specs.Trees.{Contents, Holds, tree_of, head_in}
use Rattle.ab_norm.specs.ab_store.specs.Growth.{IsExtendedBy}
use Rattle.ab_norm.proofs.Frame.{still_read_before}
use Rattle.ab_unifiers.specs.Patterns.{name_of, new_name, pattern}
use Rattle.ab_patterns.specs.EquationReadings.{names_of}

abbrev pub rest_of : List TermId → List TermId
rest_of xs = take (length xs - 1) (drop 1 xs)

rest_is : (x : TermId) (xs : List TermId) → rest_of (x ∷ xs) ≡ xs
rest_is x xs = ap (λ n. take n xs) (let e : suc (length xs) - 1 ≡ length xs = omega arith in e) ∙ take_all (length xs) xs (omega arith)

pub rest_shorter : (xs : List TermId) → 1 ≤ length xs → length (rest_of xs) < length xs
rest_shorter [] l = absurd (omega (arith, l))
rest_shorter (x ∷ xs) l = let e : length (rest_of (x ∷ xs)) ≡ length xs = ap length (rest_is x xs) in omega (arith, e)

pub rest_held : (s t : Contents) (xs : List TermId) → 1 ≤ length xs → IsExtendedBy s t → All (Holds s) xs → All (Holds t) (rest_of xs)
rest_held s t [] l e h = absurd (omega (arith, l))
rest_held s t (x ∷ xs) l e h = subst (All (Holds t)) (sym (rest_is x xs)) (All-weaker (Holds s) (Holds t) e.ids xs (All-tail (Holds s) x xs h))

rest_all : (P : TermId → Type 0) (xs : List TermId) → 1 ≤ length xs → All P xs → All P (rest_of xs)
rest_all P [] l h = absurd (omega (arith, l))
rest_all P (x ∷ xs) l h = subst (All P) (sym (rest_is x xs)) (All-tail P x xs h)

names_same : (types : Table) (s t : Contents) (o : Option (Vec Head Global)) → t.cells ≡ s.cells → names_of types s o ≡ names_of types t o
names_same types s t None e = refl
names_same types s t (Some hs) e = ap (λ cells. Some (map (head_in types cells) hs.items)) (sym e)

more : (A B : Ty) (f : TermId → Read) (xs : List TermId) (d : TermId) → 1 ≤ length xs → new_name (name_of A (f (slice_index_or xs 0 d))) (pattern B (terms_of (map f (rest_of xs)))) ≡ pattern (arrow A B) (terms_of (map f xs))
more A B f [] d l = absurd (omega (arith, l))
more A B f (x ∷ xs) d l = ap (λ ys. new_name (name_of A (f x)) (pattern B (terms_of (map f ys)))) (rest_is x xs)

-- one argument more before the others
pub pattern_reads : (types : Table) (s t : Contents) (A B T : Ty) (xs : List TermId) (d : TermId) → 1 ≤ length xs → IsExtendedBy s t → t.cells ≡ s.cells → All (Holds s) xs → T ≡ arrow A B
    → (o : Option (tree.Head ℕ)) → o ≡ name_of A (tree_of types s (slice_index_or xs 0 d))
    → (q : Option (Vec Head Global)) → names_of types t q ≡ pattern B (terms_of (map (tree_of types t) (rest_of xs)))
    → (r : Option (Vec Head Global)) → names_of types s r ≡ new_name o (names_of types s q)
    → names_of types s r ≡ pattern T (terms_of (map (tree_of types s) xs))
pattern_reads types s t A B T xs d l e cells held is o name q rest r whole =
    whole
    ∙ ap (λ o. new_name o (names_of types s q)) name
    ∙ ap (new_name (name_of A (tree_of types s (slice_index_or xs 0 d)))) (names_same types s t q cells ∙ rest ∙ ap (λ l. pattern B (terms_of l)) (still_read_before types s t (rest_of xs) e (rest_all (Holds s) xs l held)))
    ∙ more A B (tree_of types s) xs d l
    ∙ ap (λ T. pattern T (terms_of (map (tree_of types s) xs))) (sym is)
