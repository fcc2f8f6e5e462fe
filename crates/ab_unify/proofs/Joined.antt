-- Two patterns of different variables, joined over their common names.
use Rattle.std.proofs.Common.{◌≡◌, ℕ, ◌<◌, List, [], ◌∷◌, ◌++◌, map, length, Bool, true, false, cond, not, codes, refl, sym, ◌∙◌, ap, subst, arith}
use Rattle.std.specs.Prelude.{All}
use Rattle.std.proofs.lemmas.Bool.{false_from_ne_true}
use Rattle.std.proofs.lemmas.List.Elements.{All-weaker}
use Rattle.ab_term.specs.Types.{Ty, kind}
use Rattle.ab_term.specs.Terms as tree
use Rattle.ab_term.specs.Terms.{Variable, Term}
use Rattle.ab_term.specs.Abstraction.{among, Named}
use Rattle.ab_term.specs.Variables.{image, composition}
use Rattle.ab_term.specs.Sameness.{same_numbered, same_number}
use Rattle.ab_term.proofs.Same.{same_numbered-Decides}
use Rattle.ab_norm.specs.ab_types.specs.Entries.{Table, signature, IsExtendedBy as IsPartOf}
use Rattle.ab_norm.specs.ab_types.specs.Ids.{type_of}
use Rattle.ab_norm.specs.ab_types.proofs.Entries.{same_signature}
use Rattle.ab_norm.specs.ab_store.specs.declared.node.CellId.{CellId}
use Rattle.ab_norm.specs.ab_store.specs.declared.node.TermId.{TermId}
use Rattle.ab_norm.specs.ab_store.specs.declared.node.Head.{Head}
use Rattle.ab_norm.specs.ab_store.specs.declared.node.Head.TheVariants.{Const, Logic, Nominal, Cell, Index}
use Rattle.ab_norm.specs.ab_store.specs.Trees.{Contents, HoldsCell, cell_of, tree_of, head_reading}
use Rattle.ab_norm.specs.ab_store.specs.Reading.{cell_variable}
use Rattle.ab_norm.specs.ab_store.specs.Naming.{HoldsHead, HeadIsTyped, IsTypedBy}
use Rattle.ab_norm.specs.ab_store.proofs.Tables.{head_typed}
use Rattle.ab_norm.specs.NodeGrowth.{AddsTypedTerms}
use Rattle.ab_patterns.specs.ab_unifiers.specs.Patterns.{applied, value, kept, kept_type}
use Rattle.ab_patterns.specs.ab_unifiers.specs.Replacements as solve
use Rattle.ab_patterns.specs.ab_unifiers.specs.Replacements.{Change, without, next_variable, narrowed, made}
use Rattle.ab_patterns.specs.ab_unifiers.specs.Unification.{joined_at}
use Rattle.ab_patterns.specs.ab_unifiers.proofs.Avoiding.{AreNames as AllNames, value_avoids, image_avoided}
use Rattle.ab_patterns.proofs.Narrowed.{kept_all, kept_map, are_names}
use Rattle.ab_patterns.specs.ab_unifiers.proofs.Pruning.{kept_pass}
use Rattle.ab_patterns.specs.ab_unifiers.proofs.Readings.{kept_named}
use Rattle.ab_patterns.proofs.Renewed.{named_still}
use Rattle.ab_unify.specs.StoreChanges.{Grows, IsName, AreNames}
use Rattle.ab_unify.proofs.Growth.{grows_on, grows_terms, grown_type, grown_variable}
use Rattle.ab_unify.proofs.Pruned.{same_names, are_read_names}

pub without_swap : (y z : Variable ℕ) (vs : List (Variable ℕ)) → without y (without z vs) ≡ without z (without y vs)
without_swap y z [] = refl
without_swap y z (v ∷ vs) = go (same_numbered v y) (same_numbered v z) refl refl (without_swap y z vs)
  where
    go : (a b : Bool) → same_numbered v y ≡ a → same_numbered v z ≡ b → without y (without z vs) ≡ without z (without y vs)
        → without y (cond (not b) (v ∷ without z vs) (without z vs)) ≡ without z (cond (not a) (v ∷ without y vs) (without y vs))
    go true true e f r = r
    go true false e f r = ap (λ k. cond (not k) (v ∷ without y (without z vs)) (without y (without z vs))) e ∙ r
    go false true e f r = r ∙ sym (ap (λ k. cond (not k) (v ∷ without z (without y vs)) (without z (without y vs))) f)
    go false false e f r =
        ap (λ k. cond (not k) (v ∷ without y (without z vs)) (without y (without z vs))) e
        ∙ ap (λ l. v ∷ l) r
        ∙ sym (ap (λ k. cond (not k) (v ∷ without z (without y vs)) (without z (without y vs))) f)

module _ (cells : List (solve.Cell (List ℕ))) (ys : List (Variable ℕ)) (y z : Variable ℕ) (hs gs : List (tree.Head ℕ)) (names : AllNames (kept (map (among gs) hs) hs)) (low : z.name < length cells) where
  abbrev pub A : Ty
  A = kept_type (map (among gs) hs) y.type

  abbrev pub w : Variable ℕ
  w = next_variable (codes "x") cells A

  abbrev pub common : Term ℕ (List ℕ)
  common = applied (codes "x") w (kept (map (among gs) hs) hs)

  stays : image same_number (solve.one (codes "x") z gs common) (value (codes "x") y hs common) ≡ value (codes "x") y hs common
  stays =
      let other : same_numbered w z ≡ false = false_from_ne_true (same_numbered w z) (λ e. let same : length cells ≡ z.name = ap (λ (v : Variable ℕ). v.name) ((same_numbered-Decides w z).0 e) in omega (arith, same, low)) in
      image_avoided z (value (codes "x") z gs common) (value (codes "x") y hs common) (value_avoids z (codes "x") y w hs (kept (map (among gs) hs) hs) names other)

  -- one cell narrowed and then the other one put in is both at once
  pub joined_is : (record {
    cells = cells ++ made (codes "x") cells y A ∷ [];
    flexible = without y (without z ys) ++ w ∷ [];
    pairs = composition same_number (solve.one (codes "x") y hs common) (solve.one (codes "x") z gs common);
  }) ≡ joined_at (codes "x") cells ys y hs z gs
  joined_is =
      ap (λ l. record { cells = cells ++ made (codes "x") cells y A ∷ []; flexible = l ++ w ∷ []; pairs = composition same_number (solve.one (codes "x") y hs common) (solve.one (codes "x") z gs common) }) (without_swap y z ys)
      ∙ ap (λ u. record { cells = cells ++ made (codes "x") cells y A ∷ []; flexible = without z (without y ys) ++ w ∷ []; pairs = (y, u) ∷ solve.one (codes "x") z gs common }) stays

-- names stay names, and fit
pub names_more : (T U : Table) → IsPartOf T U → (hs : List Head) → AreNames T hs → AreNames U hs
names_more T U part hs all = subst (λ X. AreNames X hs) (sym part.1) (All-weaker (λ h. HeadIsTyped T h × IsName h) (λ h. HeadIsTyped (T ++ part.0) h × IsName h) (λ h n. (head_typed T part.0 h n.0, n.1)) hs all)

pub named_more : (T U : Table) → IsPartOf T U → {G : List Ty} {hs : List (tree.Head ℕ)} {A C : Ty} → Named (signature T) G hs A C → Named (signature U) G hs A C
named_more T U part {G = G} {hs = hs} {A = A} {C = C} n = subst (λ X. Named (signature X) G hs A C) (sym part.1) (named_still {old = signature T} {new = signature (T ++ part.0)} (same_signature T part.0) n)

pub held_names : (T : Table) (s : Contents) (hs : List Head) → AreNames T hs → All (HoldsHead s) hs
held_names T s hs all = All-weaker (λ h. HeadIsTyped T h × IsName h) (HoldsHead s) (λ h n. held h n.1) hs all
  where
    held : (h : Head) → IsName h → HoldsHead s h
    held (Const c) n = tt
    held (Logic l) n = tt
    held (Nominal i a) n = tt
    held (Cell c) n = absurd n
    held (Index i) n = tt

pub kept_are_names : (T : Table) (keep : List Bool) (hs : List Head) → AreNames T hs → AreNames T (kept keep hs)
kept_are_names T keep hs all = kept_all (λ h. HeadIsTyped T h × IsName h) keep hs all

pub kept_read_names : (T : Table) (s : Contents) (keep : List Bool) (hs : List Head) → AreNames T hs → AllNames (kept keep (map (head_reading T s) hs))
kept_read_names T s keep hs all = subst AllNames (kept_map (head_reading T s) keep hs) (are_names (head_reading T s) (kept keep hs) (are_read_names T s (kept keep hs) (kept_are_names T keep hs all)))

-- the pair that is put in for the younger cell
module _ (types more : Table) (store now next : Contents) (typed : IsTypedBy types store) (g : Grows types store more now) (adds : AddsTypedTerms more now next) (younger made : CellId) (held : HoldsCell store younger)
    (names others left : List Head) (are : AreNames types names) (those : AreNames types others) (keep : List Bool) (B : Ty) (term : TermId)
    (which : left ≡ kept keep names) (number : made.0 ≡ length store.cells) (ty : type_of more (cell_of now made).ty ≡ B)
    (is : tree_of more next term ≡ applied (codes "x") (cell_variable more now made) (map (head_reading more now) left)) where
  pub left_read : map (head_reading more now) left ≡ kept keep (map (head_reading types store) names)
  left_read = ap (map (head_reading more now)) which ∙ kept_map (head_reading more now) keep names ∙ ap (kept keep) (same_names types more store now g.table names are)

  pub left_named : (G : List Ty) (k : List ℕ) (older : CellId) → Named (signature types) G (map (head_reading types store) names) (type_of types (cell_of store older).ty) (kind k) → length keep ≡ length (map (head_reading types store) names)
      → B ≡ kept_type keep (type_of types (cell_of store older).ty) → Named (signature more) G (map (head_reading more now) left) (type_of more (cell_of now made).ty) (kind k)
  left_named G k older named flags same =
      subst (λ hs. Named (signature more) G hs (type_of more (cell_of now made).ty) (kind k)) (sym left_read)
      (subst (λ C. Named (signature more) G (kept keep (map (head_reading types store) names)) C (kind k)) (sym (ty ∙ same)) (named_more types more g.table (kept_named keep flags named)))

  pub others_named : (G : List Ty) (k : List ℕ) → Named (signature types) G (map (head_reading types store) others) (type_of types (cell_of store younger).ty) (kind k) → Named (signature more) G (map (head_reading more now) others) (type_of more (cell_of now younger).ty) (kind k)
  others_named G k named =
      subst (λ hs. Named (signature more) G hs (type_of more (cell_of now younger).ty) (kind k)) (sym (same_names types more store now g.table others those))
      (subst (λ C. Named (signature more) G (map (head_reading types store) others) C (kind k)) (sym (grown_type types more store now g typed younger held)) (named_more types more g.table named))

  pub left_within : keep ≡ map (among (map (head_reading types store) others)) (map (head_reading types store) names) → (h : tree.Head ℕ) → among (map (head_reading more now) left) h ≡ true → among (map (head_reading more now) others) h ≡ true
  left_within is_kept h e =
      subst (λ hs. among hs h ≡ true) (sym (same_names types more store now g.table others those))
      (kept_pass (map (head_reading types store) others) (map (head_reading types store) names) h
      (subst (λ k. among (kept k (map (head_reading types store) names)) h ≡ true) is_kept (subst (λ hs. among hs h ≡ true) left_read e)))

  pub younger_pair : solve.one (codes "x") (cell_variable more next younger) (map (head_reading more next) others) (tree_of more next term)
      ≡ solve.one (codes "x") (cell_variable types store younger) (map (head_reading types store) others) (applied (codes "x") (record { name = length store.cells; type = B }) (kept keep (map (head_reading types store) names)))
  younger_pair =
      let whole = grows_on types more more store now next g (grows_terms more now next adds) in
      ap (λ y. solve.one (codes "x") y (map (head_reading more next) others) (tree_of more next term)) (grown_variable types more store next whole typed younger held)
      ∙ ap (λ hs. solve.one (codes "x") (cell_variable types store younger) hs (tree_of more next term)) (same_names types more store next g.table others those)
      ∙ ap (λ u. solve.one (codes "x") (cell_variable types store younger) (map (head_reading types store) others) u)
      (is
      ∙ ap (λ l. applied (codes "x") (cell_variable more now made) (map (head_reading more now) l)) which
      ∙ ap (applied (codes "x") (cell_variable more now made)) (kept_map (head_reading more now) keep names)
      ∙ ap (λ hs. applied (codes "x") (cell_variable more now made) (kept keep hs)) (same_names types more store now g.table names are)
      ∙ ap (λ (C : Ty). applied (codes "x") (record { name = made.0; type = C }) (kept keep (map (head_reading types store) names))) ty
      ∙ ap (λ (n : ℕ). applied (codes "x") (record { name = n; type = B }) (kept keep (map (head_reading types store) names))) number)
