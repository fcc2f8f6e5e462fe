-- Constants, one against one: where a permutation sends them, and others to new ones.
use Rattle.std.proofs.Common.{◌≡◌, ◌≢◌, ℕ, ◌+◌, ◌<◌, List, [], ◌∷◌, ◌++◌, map, not, take, drop, length, get_or, refl, sym, ◌∙◌, ap, subst}
use Rattle.std.specs.Prelude.{All, AllPairs, Contains}
use Rattle.std.proofs.lemmas.List.{drop_more, map-append, map_more}
use Rattle.std.proofs.lemmas.List.Elements.{All-head, All-tail, All-contains, All-append, All-push, Contains-append_left, Contains-append_right, Contains-append_cases}
use Rattle.std.proofs.lemmas.List.Kept.{AllPairs-filter}
use Rattle.std.proofs.lemmas.List.Quantifiers.{all_pairs_push}
use Rattle.ab_term.specs.Types.{Ty}
use Rattle.ab_term.specs.Terms as tree
use Rattle.ab_term.specs.Names.{moved_by, IsPermutationTable}
use Rattle.ab_term.proofs.Lists.{Contains-none, Contains-here, Contains-there, Contains-cases, AllPairs-parts, AllPairs-map, All-from_contains}
use Rattle.ab_term.proofs.Permutations.{IsOneToOne, swapped, one_to_one}
use Rattle.ab_unifiers.specs.Choices.{in_order, is_in, new_constant, outside}
use Rattle.ab_unifiers.proofs.Constants.{either}
use Rattle.ab_unifiers.proofs.Choosing.{ordered_pairs, outside_contains}
use Rattle.ab_unifiers.proofs.Matching.{new_is_new}
use Rattle.ab_norm.specs.ab_types.specs.Entries.{Table, IsExtendedBy as IsPartOf}
use Rattle.ab_norm.specs.ab_types.specs.Ids.{type_of}
use Rattle.ab_norm.specs.declared.nominal.Nominal.{Nominal}
use Rattle.ab_norm.specs.declared.nominal.Swap.{Swap}
use Rattle.ab_norm.specs.Nominals.{nominal_of, pairs_of, HoldsNominal}
use Rattle.ab_walk.specs.ab_next_ways.specs.ab_judgements.specs.ab_alternatives.specs.ab_instances.proofs.Made.{names_stay, names_held}
use Rattle.ab_search_paths.specs.Likenesses.{AreAlike}

-- the list of what becomes of constants, one more
pub moved_more : (types : Table) (f : tree.Nominal → tree.Nominal) (names done now : List Nominal) (b : Nominal) (i : ℕ) (d : Nominal) → i < length names
    → map (nominal_of types) done ≡ map f (map (nominal_of types) (take i names)) → nominal_of types b ≡ f (nominal_of types (get_or names i d)) → now ≡ done ++ b ∷ []
    → map (nominal_of types) now ≡ map f (map (nominal_of types) (take (i + 1) names))
moved_more types f names done now b i d l before here is =
    let N = nominal_of types in
    ap (map N) is
    ∙ map-append N done (b ∷ [])
    ∙ ap (λ l. l ++ N b ∷ []) before
    ∙ ap (λ x. map f (map N (take i names)) ++ x ∷ []) here
    ∙ sym (map-append f (map N (take i names)) (N (get_or names i d) ∷ []))
    ∙ sym (ap (map f) (map_more N names i d l))

-- a permutation sends constants one against one
pub alike : (types : Table) (names targets : List Nominal) (pairs : List Swap) (standing : List tree.Nominal) → IsPermutationTable (pairs_of types pairs) → All (HoldsNominal types) names → All (HoldsNominal types) targets
    → map (nominal_of types) names ≡ in_order standing → map (nominal_of types) targets ≡ map (moved_by (pairs_of types pairs)) (map (nominal_of types) names) → AreAlike types names targets
alike types names targets pairs standing permutes first second names_are targets_are =
    let f = moved_by (pairs_of types pairs) in
    let N = nominal_of types in
    let one : IsOneToOne f (moved_by (swapped (pairs_of types pairs))) = one_to_one (pairs_of types pairs) permutes in
    let once : AllPairs (λ a b. a ≢ b) (map N names) = subst (AllPairs (λ a b. a ≢ b)) (sym names_are) (ordered_pairs standing) in
    record {
      first = first;
      second = second;
      once = once;
      different =
          subst (AllPairs (λ a b. a ≢ b)) (sym targets_are)
          (AllPairs-map f (λ a b. a ≢ b) (map N names) (λ i j d l m e. once i j d l m (sym (one.back _) ∙ ap (moved_by (swapped (pairs_of types pairs))) e ∙ one.back _)));
      same = ap (map (λ (a : tree.Nominal). a.type)) targets_are ∙ kept f one.keeps (map N names);
    }
  where
    kept : (f : tree.Nominal → tree.Nominal) → ((a : tree.Nominal) → (f a).type ≡ a.type) → (ns : List tree.Nominal) → map (λ a. a.type) (map f ns) ≡ map (λ a. a.type) ns
    kept f keeps [] = refl
    kept f keeps (n ∷ ns) = ap (λ A. A ∷ map (λ a. a.type) (map f ns)) (keeps n) ∙ ap (λ As. n.type ∷ As) (kept f keeps ns)

-- constants that aren't among the names
pub others_once : (types : Table) (others all : List Nominal) (names standing : List tree.Nominal) → map (nominal_of types) others ≡ outside (map (nominal_of types) all) names → map (nominal_of types) all ≡ in_order standing
    → AllPairs (λ a b. a ≢ b) (map (nominal_of types) others)
others_once types others all names standing is order =
    subst (AllPairs (λ a b. a ≢ b)) (sym is)
    (AllPairs-filter (λ a b. a ≢ b) (λ a. not (is_in names a)) (map (nominal_of types) all) (subst (AllPairs (λ a b. a ≢ b)) (sym order) (ordered_pairs standing)))

pub others_apart : (types : Table) (others all names names2 : List Nominal) → map (nominal_of types) others ≡ outside (map (nominal_of types) all) (map (nominal_of types) names2) → names2 ≡ names
    → (a : tree.Nominal) → Contains (map (nominal_of types) others) a → Contains (map (nominal_of types) names) a → ⊥
others_apart types others all names names2 is same a m k =
    (outside_contains (map (nominal_of types) all) (map (nominal_of types) names2) a (subst (λ l. Contains l a) is m)).1 (subst (λ l. Contains (map (nominal_of types) l) a) (sym same) k)

-- OTHER CONSTANTS ARE SENT TO NEW ONES, one after another: these are still to be sent
pub record Sending (types : Table) (names targets known left : List Nominal) : Type 0 where
  pub like : AreAlike types names targets
  pub held : All (HoldsNominal types) known
  pub taken : (b : tree.Nominal) → Contains (map (nominal_of types) targets) b → Contains (map (nominal_of types) known) b
  pub others : All (HoldsNominal types) left
  pub once : AllPairs (λ a b. a ≢ b) (map (nominal_of types) left)
  pub apart : (a : tree.Nominal) → Contains (map (nominal_of types) left) a → Contains (map (nominal_of types) names) a → ⊥

module _ (types : Table) where
  abbrev N : Nominal → tree.Nominal
  N = nominal_of types

  pub sent_next : (names targets known left : List Nominal) (a b : Nominal) → Sending types names targets known (a ∷ left) → HoldsNominal types b → N b ≡ new_constant (map N known) (type_of types a.ty)
      → Sending types (names ++ a ∷ []) (targets ++ b ∷ []) (known ++ b ∷ []) left
  sent_next names targets known left a b s held is =
      let parts = AllPairs-parts (λ x y. x ≢ y) (N a) (map N left) s.once in
      let new : (c : tree.Nominal) → Contains (map N targets) c → c ≢ N b = λ c m e. new_is_new (map N known) (type_of types a.ty) (subst (Contains (map N known)) (e ∙ is) (s.taken c m)) in
      record {
        like = record {
          first = All-push (HoldsNominal types) names a s.like.first (All-head (HoldsNominal types) a left s.others);
          second = All-push (HoldsNominal types) targets b s.like.second held;
          once =
              subst (AllPairs (λ x y. x ≢ y)) (sym (map-append N names (a ∷ [])))
              (all_pairs_push (λ x y. x ≢ y) (map N names) (N a) s.like.once
              (All-from_contains (λ x. x ≢ N a) (map N names) (λ c m e. s.apart (N a) (Contains-here (N a) (map N left)) (subst (Contains (map N names)) e m))));
          different = subst (AllPairs (λ x y. x ≢ y)) (sym (map-append N targets (b ∷ []))) (all_pairs_push (λ x y. x ≢ y) (map N targets) (N b) s.like.different (All-from_contains (λ x. x ≢ N b) (map N targets) new));
          same =
              ap (map (λ (x : tree.Nominal). x.type)) (map-append N targets (b ∷ []))
              ∙ map-append (λ (x : tree.Nominal). x.type) (map N targets) (N b ∷ [])
              ∙ ap (λ As. As ++ type_of types b.ty ∷ []) s.like.same
              ∙ ap (λ A. map (λ (x : tree.Nominal). x.type) (map N names) ++ A ∷ []) (ap (λ (x : tree.Nominal). x.type) is)
              ∙ sym (map-append (λ (x : tree.Nominal). x.type) (map N names) (N a ∷ []))
              ∙ sym (ap (map (λ (x : tree.Nominal). x.type)) (map-append N names (a ∷ [])));
        };
        held = All-push (HoldsNominal types) known b s.held held;
        taken = λ c m.
            subst (λ l. Contains l c) (sym (map-append N known (b ∷ [])))
            (either (λ k. Contains-append_left (map N known) (N b ∷ []) c (s.taken c k)) (λ k. Contains-append_right (map N known) (N b ∷ []) c k)
            (Contains-append_cases (map N targets) (N b ∷ []) c (subst (λ l. Contains l c) (map-append N targets (b ∷ [])) m)));
        others = All-tail (HoldsNominal types) a left s.others;
        once = parts.1;
        apart = λ c m k.
            either (λ h. s.apart c (Contains-there (N a) (map N left) c m) h) (λ h. All-contains (λ x. N a ≢ x) (map N left) c parts.0 m (only (N a) c h))
            (Contains-append_cases (map N names) (N a ∷ []) c (subst (λ l. Contains l c) (map-append N names (a ∷ [])) k));
      }
    where
      only : (x c : tree.Nominal) → Contains (x ∷ []) c → x ≡ c
      only x c m = either (λ e. e) (λ h. absurd (Contains-none c h)) (Contains-cases x [] c m)

  -- the same at a place of the list
  pub sent_more : (names targets known others names2 targets2 known2 : List Nominal) (b : Nominal) (i : ℕ) (d : Nominal) → i < length others → Sending types names targets known (drop i others) → HoldsNominal types b
      → N b ≡ new_constant (map N known) (type_of types (get_or others i d).ty) → names2 ≡ names ++ get_or others i d ∷ [] → targets2 ≡ targets ++ b ∷ [] → known2 ≡ known ++ b ∷ []
      → Sending types names2 targets2 known2 (drop (i + 1) others)
  sent_more names targets known others names2 targets2 known2 b i d l s held is ns ts ks =
      let a = get_or others i d in
      subst (λ n. Sending types n targets2 known2 (drop (i + 1) others)) (sym ns)
      (subst (λ t. Sending types (names ++ a ∷ []) t known2 (drop (i + 1) others)) (sym ts)
      (subst (λ k. Sending types (names ++ a ∷ []) (targets ++ b ∷ []) k (drop (i + 1) others)) (sym ks)
      (sent_next names targets known (drop (i + 1) others) a b (subst (Sending types names targets known) (drop_more others i d l) s) held is)))

  -- the first of them
  pub sent_none : (names targets held others known names2 targets2 : List Nominal) → AreAlike types names targets → All (HoldsNominal types) others → All (HoldsNominal types) held → AllPairs (λ a b. a ≢ b) (map N others)
      → ((a : tree.Nominal) → Contains (map N others) a → Contains (map N names) a → ⊥) → known ≡ held ++ targets → names2 ≡ names → targets2 ≡ targets → Sending types names2 targets2 known others
  sent_none names targets held others known names2 targets2 like more all once apart ks ns ts =
      subst (λ n. Sending types n targets2 known others) (sym ns)
      (subst (λ t. Sending types names t known others) (sym ts)
      (subst (λ k. Sending types names targets k others) (sym ks)
      (record {
        like = like;
        held = All-append (HoldsNominal types) held targets all like.second;
        taken = λ b m. subst (λ l. Contains l b) (sym (map-append N held targets)) (Contains-append_right (map N held) (map N targets) b m);
        others = more;
        once = once;
        apart = apart;
      })))

-- constants stay one against one in a larger table
pub likeness_stays : (s t : Table) → IsPartOf s t → (names targets : List Nominal) → AreAlike s names targets → AreAlike t names targets
likeness_stays s t part names targets are =
    let first = names_stay s t part names are.first in
    let second = names_stay s t part targets are.second in
    let types : List tree.Nominal → List Ty = map (λ (a : tree.Nominal). a.type) in
    record {
      first = names_held s t part names are.first;
      second = names_held s t part targets are.second;
      once = subst (AllPairs (λ a b. a ≢ b)) (sym first) are.once;
      different = subst (AllPairs (λ a b. a ≢ b)) (sym second) are.different;
      same = ap types second ∙ are.same ∙ sym (ap types first);
    }
