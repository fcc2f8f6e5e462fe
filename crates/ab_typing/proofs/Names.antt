-- Constants of one table are compared by their numbers in place of their names; and which name is found.
use Rattle.std.proofs.Common.{◌≡◌, ◌⊎◌, inl, inr, ℕ, ◌||◌, List, [], ◌∷◌, ◌++◌, map, Bool, true, false, if◌then◌else◌, Some, None, Contains, refl, sym, ap, ◌∙◌, subst, bytes_eq}
use Rattle.std.specs.List.{All, list_any}
use Rattle.std.proofs.lemmas.List.Elements.{All-nil, All-cons, All-head, All-tail}
use Rattle.std.proofs.lemmas.Bool.Decides.{Decides-eqb}
use Rattle.std.proofs.lemmas.Slice.Eq.{bytes_eq-Decides}
use lib.Dec.{eqb}
use Rattle.ab_term.proofs.Lists.{Contains-here, Contains-there}
use Rattle.ab_store.specs.ab_types.specs.Entries.{Table}
use Rattle.ab_store.specs.ab_types.specs.Ids.{HoldsConstant, constant_of}
use Rattle.ab_store.specs.ab_types.specs.declared.ids.ConstId.{ConstId}
use Rattle.ab_formulas.specs.Stratification.{AvoidAll, IsFirstOf}
use Rattle.ab_typing.specs.DefinitionReadings.{name_of}
use Rattle.ab_typing.specs.JudgedTerms.{first_of}
pub use Rattle.ab_formulas.proofs.Names.{contains_any, past, not_avoided, one_before, one_first}

module _ (types : Table) (unique : (a b : ConstId) → HoldsConstant types a → HoldsConstant types b → (constant_of types a).name ≡ (constant_of types b).name → a ≡ b) (c : ConstId) (held : HoldsConstant types c) where
  same_test : (p : ConstId) → HoldsConstant types p → eqb p.0 c.0 ≡ bytes_eq (name_of types c) (name_of types p)
  same_test p h = go (eqb p.0 c.0) refl (bytes_eq (name_of types c) (name_of types p)) refl
    where
      go : (x : Bool) → eqb p.0 c.0 ≡ x → (y : Bool) → bytes_eq (name_of types c) (name_of types p) ≡ y → x ≡ y
      go true e true f = refl
      go false e false f = refl
      go true e false f =
          let same : p ≡ c = ap (λ n. record { 0 = n }) ((Decides-eqb p.0 c.0).0 e) in
          sym ((bytes_eq-Decides (name_of types c) (name_of types p)).1 (ap (name_of types) (sym same))) ∙ f
      go false e true f =
          let same : c ≡ p = unique c p held h ((bytes_eq-Decides (name_of types c) (name_of types p)).0 f) in
          sym e ∙ (Decides-eqb p.0 c.0).1 (ap (λ (x : ConstId). x.0) (sym same))

  pub same_search : (ps : List ConstId) → All (HoldsConstant types) ps → list_any (λ (y : ConstId). eqb y.0 c.0) ps ≡ list_any (bytes_eq (name_of types c)) (map (name_of types) ps)
  same_search [] h = refl
  same_search (p ∷ ps) h =
      ap (λ b. b || list_any (λ (y : ConstId). eqb y.0 c.0) ps) (same_test p (All-head (HoldsConstant types) p ps h))
      ∙ ap (λ b. bytes_eq (name_of types c) (name_of types p) || b) (same_search ps (All-tail (HoldsConstant types) p ps h))

-- a name is found among others where it stands there

pub any_contains : (c : List ℕ) (ps : List (List ℕ)) → list_any (bytes_eq c) ps ≡ true → Contains ps c
any_contains c [] e = absurd (cc)
any_contains c (p ∷ ps) e = go (bytes_eq c p) refl (any_contains c ps) e
  where
    go : (b : Bool) → bytes_eq c p ≡ b → (list_any (bytes_eq c) ps ≡ true → Contains ps c) → (b || list_any (bytes_eq c) ps) ≡ true → Contains (p ∷ ps) c
    go true f later g = subst (Contains (p ∷ ps)) (sym ((bytes_eq-Decides c p).0 f)) (Contains-here p ps)
    go false f later g = Contains-there p ps c (later g)

-- the first that is found

pub none_found : (ps names : List (List ℕ)) → first_of ps names ≡ None → AvoidAll ps names
none_found ps [] e = All-nil (λ c. ¬ Contains ps c)
none_found ps (n ∷ names) e = go (list_any (bytes_eq n) ps) refl (none_found ps names) e
  where
    go : (b : Bool) → list_any (bytes_eq n) ps ≡ b → (first_of ps names ≡ None → AvoidAll ps names) → (if b then Some n else first_of ps names) ≡ None → AvoidAll ps (n ∷ names)
    go true f later g = absurd (cc)
    go false f later g = All-cons (λ c. ¬ Contains ps c) n names (λ m. absurd (let q : false ≡ true = sym f ∙ contains_any n ps m in cc)) (later g)

pub one_found : (ps names : List (List ℕ)) (p : List ℕ) → first_of ps names ≡ Some p → IsFirstOf ps names p
one_found ps [] p e = absurd (cc)
one_found ps (n ∷ names) p e = go (list_any (bytes_eq n) ps) refl (one_found ps names p) e
  where
    go : (b : Bool) → list_any (bytes_eq n) ps ≡ b → (first_of ps names ≡ Some p → IsFirstOf ps names p) → (if b then Some n else first_of ps names) ≡ Some p → IsFirstOf ps (n ∷ names) p
    go true f later g =
        let same : n ≡ p = cc in
        record { before = []; after = names; whole = ap (λ q. q ∷ names) same; none_before = All-nil (λ c. ¬ Contains ps c); is_one = subst (Contains ps) same (any_contains n ps f) }
    go false f later g =
        let rest = later g in
        record {
          before = n ∷ rest.before;
          after = rest.after;
          whole = ap (λ l. n ∷ l) rest.whole;
          none_before = All-cons (λ c. ¬ Contains ps c) n rest.before (λ m. absurd (let q : false ≡ true = sym f ∙ contains_any n ps m in cc)) rest.none_before;
          is_one = rest.is_one;
        }
