-- A MAP that a guess takes, from fewer constants, extends to one of the search: both go into the constants of one branch.
use Rattle.std.proofs.Common.{◌≡◌, ◌≢◌, ◌⊎◌, inl, inr, List, [], ◌∷◌, map, filter, Bool, true, false, cond, not, refl, sym, ◌∙◌, ap, subst}
use Rattle.std.specs.Prelude.{Contains, AllPairs}
use Rattle.std.proofs.lemmas.Bool.{false≢true, and_parts, false_from_ne_true}
use Rattle.std.proofs.lemmas.List.Elements.{All-contains}
use Rattle.ab_term.specs.Types.{same_type}
use Rattle.ab_term.specs.Terms.{Nominal}
use Rattle.ab_term.specs.Names.{same_nominal, moved_by}
use Rattle.ab_term.proofs.Lists.{Contains-none, Contains-here, Contains-there, Contains-cases, Contains-map, Contains-from_map, AllPairs-parts, AllPairs-map}
use Rattle.ab_term.proofs.Comparisons.{same_type-Decides, same_nominal-Decides}
use Rattle.ab_term.proofs.Permuting.{Each, exchange, moved}
use Rattle.ab_unifiers.specs.Choices.{others, of_type}
use Rattle.ab_unifiers.proofs.Choosing.{gathered}
use Rattle.ab_search_trees.specs.Maps.{images_in, same_constants, mapping, targets, maps}

-- what passes the filter
pub passes : {X : Type 0} (test : X → Bool) (xs : List X) (a : X) → Contains xs a → test a ≡ true → Contains (filter test xs) a
passes test [] a m t = absurd (Contains-none a m)
passes test (x ∷ xs) a m t = go (test x) refl (Contains-cases x xs a m) (λ n. passes test xs a n t)
  where
    go : (b : Bool) → test x ≡ b → (x ≡ a) ⊎ Contains xs a → (Contains xs a → Contains (filter test xs) a) → Contains (cond b (x ∷ filter test xs) (filter test xs)) a
    go true e (inl f) rest = subst (Contains (x ∷ filter test xs)) f (Contains-here x (filter test xs))
    go true e (inr n) rest = Contains-there x (filter test xs) a (rest n)
    go false e (inl f) rest = absurd (false≢true (sym e ∙ ap test f ∙ t))
    go false e (inr n) rest = rest n

-- each list of different constants of these types is there
pub images_there : (bs ns free : List Nominal) → Each (λ b n. n.type ≡ b.type) bs ns → AllPairs (λ a b. a ≢ b) ns → ((a : Nominal) → Contains ns a → Contains free a) → Contains (images_in bs free) ns
images_there [] [] free e d there = Contains-here [] []
images_there [] (n ∷ ns) free e d there = absurd e
images_there (b ∷ bs) [] free e d there = absurd e
images_there (b ∷ bs) (n ∷ ns) free e d there =
    let parts = AllPairs-parts (λ a c. a ≢ c) n ns d in
    gathered (λ a. map (λ ks. a ∷ ks) (images_in bs (others a free))) (of_type b.type free) n (n ∷ ns)
    (passes (λ a. same_type a.type b.type) free n (there n (Contains-here n ns)) ((same_type-Decides n.type b.type).1 e.0))
    (Contains-map (λ ks. n ∷ ks) (images_in bs (others n free)) ns
    (images_there bs ns (others n free) e.1 parts.1 (λ a m. passes (λ k. not (same_nominal n k)) free a (there a (Contains-there n ns a m)) (ap not (false_from_ne_true (same_nominal n a) (λ s. All-contains (λ k. n ≢ k) ns a parts.0 m ((same_nominal-Decides n a).0 s)))))))

same_constants_same : (as_ bs : List Nominal) → same_constants as_ bs ≡ true → as_ ≡ bs
same_constants_same [] [] e = refl
same_constants_same [] (b ∷ bs) e = absurd (false≢true e)
same_constants_same (a ∷ as_) [] e = absurd (false≢true e)
same_constants_same (a ∷ as_) (b ∷ bs) e =
    let parts = and_parts (same_nominal a b) (same_constants as_ bs) e in
    let first = (same_nominal-Decides a b).0 parts.0 in
    let rest = same_constants_same as_ bs parts.1 in
    λ i. first i ∷ rest i

pub target_there : (bs ns free : List Nominal) → Contains (images_in bs free) ns → Contains (targets bs free) ns
target_there bs ns free m = go (same_constants bs ns) refl
  where
    go : (b : Bool) → same_constants bs ns ≡ b → Contains (bs ∷ filter (λ ks. not (same_constants bs ks)) (images_in bs free)) ns
    go true e = subst (Contains (bs ∷ filter (λ ks. not (same_constants bs ks)) (images_in bs free))) (same_constants_same bs ns e) (Contains-here bs (filter (λ ks. not (same_constants bs ks)) (images_in bs free)))
    go false e = Contains-there bs (filter (λ ks. not (same_constants bs ks)) (images_in bs free)) ns (passes (λ ks. not (same_constants bs ks)) (images_in bs free) ns m (ap not e))

-- a map that is a function
pub mapped_by : (p : Nominal → Nominal) (bs : List Nominal) (a : Nominal) → Contains bs a → moved_by (mapping bs (map p bs)) a ≡ p a
mapped_by p [] a m = absurd (Contains-none a m)
mapped_by p (b ∷ bs) a m = go (same_nominal b a) refl (Contains-cases b bs a m) (λ n. mapped_by p bs a n)
  where
    go : (t : Bool) → same_nominal b a ≡ t → (b ≡ a) ⊎ Contains bs a → (Contains bs a → moved_by (mapping bs (map p bs)) a ≡ p a) → cond t (p b) (moved_by (mapping bs (map p bs)) a) ≡ p a
    go true e o rest = ap p ((same_nominal-Decides b a).0 e)
    go false e (inl f) rest = absurd (false≢true (sym e ∙ (same_nominal-Decides b a).1 f))
    go false e (inr n) rest = rest n

pub mapped_each : (p : Nominal → Nominal) (bs ns : List Nominal) → Each (λ b n. p b ≡ n) bs ns → (a : Nominal) → Contains bs a → moved_by (mapping bs ns) a ≡ p a
mapped_each p [] ns e a m = absurd (Contains-none a m)
mapped_each p (b ∷ bs) [] e a m = absurd e
mapped_each p (b ∷ bs) (n ∷ ns) e a m = go (same_nominal b a) refl (Contains-cases b bs a m) (λ k. mapped_each p bs ns e.1 a k)
  where
    go : (t : Bool) → same_nominal b a ≡ t → (b ≡ a) ⊎ Contains bs a → (Contains bs a → moved_by (mapping bs ns) a ≡ p a) → cond t n (moved_by (mapping bs ns) a) ≡ p a
    go true q o rest = sym e.0 ∙ ap p ((same_nominal-Decides b a).0 q)
    go false q (inl f) rest = absurd (false≢true (sym q ∙ (same_nominal-Decides b a).1 f))
    go false q (inr k) rest = rest k

-- a permutation of a branch's constants stays among them
exchanged_within : (P : Nominal → Type 0) (a b c : Nominal) → P a → P b → P c → P (exchange a b c)
exchanged_within P a b c p q r = go (same_nominal c a) (same_nominal c b)
  where
    go : (t s : Bool) → P (cond t b (cond s a c))
    go true s = q
    go false true = p
    go false false = r

pub moved_within : (P : Nominal → Type 0) (ns cs : List Nominal) → ((a : Nominal) → Contains ns a → P a) → ((a : Nominal) → Contains cs a → P a) → (a : Nominal) → P a → P (moved ns cs a)
moved_within P [] cs f g a p = p
moved_within P (n ∷ ns) [] f g a p = p
moved_within P (n ∷ ns) (c ∷ cs) f g a p =
    let rest = moved_within P ns cs (λ b m. f b (Contains-there n ns b m)) (λ b m. g b (Contains-there c cs b m)) in
    exchanged_within P (moved ns cs n) c (moved ns cs a) (rest n (f n (Contains-here n ns))) (g c (Contains-here c cs)) (rest a p)

each_mapped : (p : Nominal → Nominal) → ((a : Nominal) → (p a).type ≡ a.type) → (bs : List Nominal) → Each (λ b n. n.type ≡ b.type) bs (map p bs)
each_mapped p t [] = tt
each_mapped p t (b ∷ bs) = (t b, each_mapped p t bs)

pairs_mapped : (p : Nominal → Nominal) → ((a b : Nominal) → p a ≡ p b → a ≡ b) → (bs : List Nominal) → AllPairs (λ a b. a ≢ b) bs → AllPairs (λ a b. a ≢ b) (map p bs)
pairs_mapped p inj bs d = AllPairs-map p (λ a b. a ≢ b) bs (λ i j e l m q. d i j e l m (inj _ _ q))

-- THE MAP, extended: a permutation that does what the map does, and that is a map of the larger set
pub map_there : (p : Nominal → Nominal) → ((a : Nominal) → (p a).type ≡ a.type) → ((a b : Nominal) → p a ≡ p b → a ≡ b) → (bs free : List Nominal) → AllPairs (λ a b. a ≢ b) bs → ((a : Nominal) → Contains bs a → Contains free (p a))
    → Contains (maps bs free) (mapping bs (map p bs))
map_there p t inj bs free d there =
    Contains-map (mapping bs) (targets bs free) (map p bs) (target_there bs (map p bs) free (images_there bs (map p bs) free (each_mapped p t bs) (pairs_mapped p inj bs d)
    (λ a m. let from = Contains-from_map p bs a m in subst (Contains free) from.2 (there from.0 from.1))))
