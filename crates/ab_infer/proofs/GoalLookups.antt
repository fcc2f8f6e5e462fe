-- Names are resolved by look-ups alone: scopes whose nominal constants are the same in any order, each once or more often,
-- resolve an expression to the same.
use Rattle.std.specs.Prelude.{if◌then◌else◌, ◌↔◌, Contains}
use Rattle.std.proofs.Common.{◌≡◌, ◌≢◌, ◌⊎◌, inl, inr, ◌==◌, ℕ, List, [], ◌∷◌, Bool, true, false, Option, Some, None, option_map, refl, sym, ◌∙◌, ap, arith}
use Rattle.ab_term.specs.Terms.{Nominal, nominal}
use Rattle.ab_term.specs.Names.{HasOneTypeEach}
use Rattle.ab_term.specs.Typing.{Signature}
use Rattle.ab_term.proofs.Lists.{Contains-none, Contains-here, Contains-there, Contains-cases}
use Rattle.ab_grammar.specs.declared.Infix.{Infix}
use Rattle.ab_grammar.specs.declared.Infix.TheVariants.{Arrow, Or, And, Equal, Imply, With, Cons}
use Rattle.ab_grammar.specs.Tree as tree
use Rattle.ab_grammar.specs.Tree.{Tree, Trees, no_trees, Focus}
use Rattle.ab_meaning.specs.ResolvedNames.{Name, bound, known, free, apply, abs}
use Rattle.ab_meaning.specs.Scopes.{Entry, Scope, in_proof, nominal_number, or_else, index_of, truth_named, variable_named, constant_at, settled_nominal, nominal_at, clause_variable, head_named, Found, or_unknown, made_of, made_of_both, joined, put_before, first_list, with_goal, with_focus_and_goal, pi_over, after, with_binders, under, is_pi, resolved, applied, pi_applied, context, items_before, judgement}

-- ONE LOOK-UP

-- none of the constants has the number
abbrev HasNone : List Nominal → ℕ → Type 0
HasNone ns n = (a : Nominal) → Contains ns a → a.number ≡ n → ⊥

-- the constant is the one that is found
abbrev IsSettled : List Nominal → ℕ → Nominal → Type 0
IsSettled ns n a = Contains ns a × (a.number ≡ n) × (settled_nominal ns n ≡ Some (known (nominal a) a.type))

abbrev Settles : List Nominal → ℕ → Type 0
Settles ns n = ((settled_nominal ns n ≡ None) × HasNone ns n) ⊎ ((a : Nominal) × IsSettled ns n a)

settles : (ns : List Nominal) (n : ℕ) → Settles ns n
settles [] n = inl (refl, λ a c e. Contains-none a c)
settles (a ∷ ns) n = go (a.number == n) refl (settles ns n)
  where
    go : (b : Bool) → (a.number == n) ≡ b → Settles ns n → Settles (a ∷ ns) n
    go true e rest = let same : a.number ≡ n = grind arith in inr (a, (Contains-here a ns, same, rw e refl))
    go false e (inl none) = let other : a.number ≢ n = grind arith in (
        inl (rw e none.0, λ b c f. elim (Contains-cases a ns b c) [ inl g ↦ other (ap (λ (m : Nominal). m.number) g ∙ f) | inr d ↦ none.1 b d f ])
        )
    go false e (inr (b, (c, f, g))) = inr (b, (Contains-there a ns b c, f, rw e g))

-- nothing is found exactly where there is none of the number
pub none_settled : (ns : List Nominal) (n : ℕ) → settled_nominal ns n ≡ None → HasNone ns n
none_settled ns n e = elim (settles ns n) [
  | inl none ↦ none.1
  | inr (a, (c, f, g)) ↦ let bad : None ≡ Some (known (nominal a) a.type) = sym e ∙ g in absurd (cc)
]

pub same_settled : (ns ms : List Nominal) → HasOneTypeEach ns → ((a : Nominal) → Contains ns a ↔ Contains ms a) → (n : ℕ) → settled_nominal ns n ≡ settled_nominal ms n
same_settled ns ms one same n = go (settles ns n) (settles ms n)
  where
    go : Settles ns n → Settles ms n → settled_nominal ns n ≡ settled_nominal ms n
    go (inl none) (inl nothing) = none.0 ∙ sym nothing.0
    go (inl none) (inr (a, (c, e, f))) = absurd (none.1 a ((same a).1 c) e)
    go (inr (a, (c, e, f))) (inl nothing) = absurd (nothing.1 a ((same a).0 c) e)
    go (inr (a, (c, e, f))) (inr (b, (d, g, h))) =
        let is : a ≡ b = one a b c ((same b).1 d) (e ∙ sym g) in
        f ∙ ap (λ (m : Nominal). Some (known (nominal m) m.type)) is ∙ sym h

-- A WHOLE EXPRESSION

module _ (kinds : List Name) (constants : Signature) (entries : List Entry) (ns ms : List Nominal) (settled : (n : ℕ) → settled_nominal ns n ≡ settled_nominal ms n) where
  abbrev one : Scope
  one = record { kinds = kinds; constants = constants; variables = entries; nominals = ns; place = in_proof }

  abbrev other : Scope
  other = record { kinds = kinds; constants = constants; variables = entries; nominals = ms; place = in_proof }

  same_nominal : (x : Name) (p : ℕ) (n : Option ℕ) → nominal_at ns x p n ≡ nominal_at ms x p n
  same_nominal x p None = refl
  same_nominal x p (Some n) = ap (λ r. or_else r (Some (free x p))) (settled n)

  same_head : (bs : List Name) (x : Name) (p : ℕ) → head_named one bs x p ≡ head_named other bs x p
  same_head bs x p =
      ap (λ r. or_else (option_map bound (index_of bs x)) (or_else (truth_named x) (or_else (clause_variable in_proof x p) (or_else (variable_named entries x) (or_else (constant_at x (constants x)) r)))))
      (same_nominal x p (nominal_number x))

  same_joined : (i : Infix) (a b : Found) → joined one i a b ≡ joined other i a b
  same_joined Arrow a b = refl
  same_joined Or a b = refl
  same_joined And a b = refl
  same_joined Equal a b = refl
  same_joined Imply a b = refl
  same_joined With a b = refl
  same_joined Cons a b = refl

  mutual
    pub same_resolved : (bs : List Name) (e : Tree) → resolved one bs e ≡ resolved other bs e
    same_resolved bs (tree.name x p) = ap (or_unknown x) (same_head bs x p)
    same_resolved bs (tree.apply f vs p) =
        ap (λ z. if is_pi f then z else applied one bs (resolved one bs f) vs) (same_pi bs vs)
        ∙ ap (λ z. if is_pi f then pi_applied other bs vs else z) (same_applied bs (resolved one bs f) (resolved other bs f) (same_resolved bs f) vs)
    same_resolved bs (tree.abs x e p) = ap (made_of (abs x p)) (same_resolved (x ∷ bs) e)
    same_resolved bs (tree.join i t u p) =
        ap (λ a. joined one i a (resolved one bs u)) (same_resolved bs t) ∙ ap (λ b. joined one i (resolved other bs t) b) (same_resolved bs u)
        ∙ same_joined i (resolved other bs t) (resolved other bs u)
    same_resolved bs (tree.bind q xs e p) = ap (with_binders kinds q xs) (same_resolved (under xs bs) e)
    same_resolved bs (tree.judge cs f g p) = same_judgement bs (context one bs cs) (context other bs cs) (same_context bs cs) f (resolved one bs g) (resolved other bs g) (same_resolved bs g)

    same_applied : (bs : List Name) (a b : Found) → a ≡ b → (vs : Trees) → applied one bs a vs ≡ applied other bs b vs
    same_applied bs a b e no_trees = e
    same_applied bs a b e (tree.tree v vs) =
        same_applied bs (made_of_both apply a (resolved one bs v)) (made_of_both apply b (resolved other bs v))
        (ap (λ z. made_of_both apply z (resolved one bs v)) e ∙ ap (made_of_both apply b) (same_resolved bs v)) vs

    same_pi : (bs : List Name) (vs : Trees) → pi_applied one bs vs ≡ pi_applied other bs vs
    same_pi bs no_trees = refl
    same_pi bs (tree.tree v no_trees) = ap (after pi_over) (same_resolved bs v)
    same_pi bs (tree.tree v (tree.tree u us)) = refl

    same_context : (bs : List Name) (cs : Trees) → context one bs cs ≡ context other bs cs
    same_context bs no_trees = refl
    same_context bs (tree.tree c cs) = same_items bs (first_list c (resolved one bs c)) (first_list c (resolved other bs c)) (ap (first_list c) (same_resolved bs c)) cs

    same_items : (bs : List Name) (l m : Found) → l ≡ m → (cs : Trees) → items_before one bs l cs ≡ items_before other bs m cs
    same_items bs l m e no_trees = e
    same_items bs l m e (tree.tree c cs) =
        same_items bs (made_of_both put_before l (resolved one bs c)) (made_of_both put_before m (resolved other bs c))
        (ap (λ z. made_of_both put_before z (resolved one bs c)) e ∙ ap (made_of_both put_before m) (same_resolved bs c)) cs

    same_judgement : (bs : List Name) (l m : Found) → l ≡ m → (f : Focus) (g h : Found) → g ≡ h → judgement one bs l f g ≡ judgement other bs m f h
    same_judgement bs l m d tree.unfocused g h e = ap (λ z. with_goal z g) d ∙ ap (with_goal m) e
    same_judgement bs l m d (tree.focused f) g h e =
        ap (λ z. with_focus_and_goal z (resolved one bs f) g) d ∙ ap (λ z. with_focus_and_goal m z g) (same_resolved bs f) ∙ ap (with_focus_and_goal m (resolved other bs f)) e
