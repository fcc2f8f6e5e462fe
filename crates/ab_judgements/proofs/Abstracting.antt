-- A term is abstracted over constants, one after another, the last innermost.
use Rattle.std.proofs.Common.{◌≡◌, ℕ, ◌+◌, ◌-◌, ◌<◌, ◌≤◌, List, [], ◌∷◌, map, drop, length, get_or, codes, sym, ◌∙◌, ap, subst, arith}
use Rattle.std.specs.List.{All}
use Rattle.std.proofs.lemmas.List.{drop_more, drop_all}
use Rattle.ab_term.specs.Types.{prop}
use Rattle.ab_term.specs.Terms.{lam, nominal, Read}
use Rattle.ab_term.specs.Abstraction.{close, over, abstracted}
use Rattle.ab_norm.specs.ab_types.specs.Entries.{Table}
use Rattle.ab_norm.specs.ab_store.specs.declared.node.TermId.{TermId}
use Rattle.ab_norm.specs.ab_store.specs.Trees.{Contents, Holds, tree_of}
use Rattle.ab_norm.specs.ab_store.specs.Naming.{IsTypedBy}
use Rattle.ab_norm.specs.declared.nominal.Nominal.{Nominal}
use Rattle.ab_norm.specs.Nominals.{nominal_of}
use Rattle.ab_norm.specs.NodeGrowth.{AddsTypedTerms}
use Rattle.ab_norm.proofs.Frame.{typed_none, typed_on}
use Rattle.ab_alternatives.specs.ab_instances.specs.ListReadings.{names_read}

-- the term, abstracted over these
abbrev pub over_all : Table → List Nominal → Read → Read
over_all T xs t = abstracted (codes "x") (over (names_read T xs) prop) (map nominal (names_read T xs)) t

-- abstracted over those from this place on
pub record Abstracted (T : Table) (S0 S : Contents) (xs : List Nominal) (term : TermId) (left : ℕ) (here : TermId) : Type 0 where
  pub within : left ≤ length xs
  pub held : Holds S here
  pub tree : tree_of T S here ≡ over_all T (drop left xs) (tree_of T S0 term)
  pub adds : AddsTypedTerms T S0 S

module _ (T : Table) (S0 : Contents) (xs : List Nominal) (term : TermId) where
  pub abstracted_none : IsTypedBy T S0 → Holds S0 term → Abstracted T S0 S0 xs term (length xs) term
  abstracted_none typed held = record {
    within = omega arith;
    held = held;
    tree = sym (ap (λ l. over_all T l (tree_of T S0 term)) (drop_all (length xs) xs (omega arith)));
    adds = typed_none T S0 typed;
  }

  pub abstracted_more : (S U : Contents) (left next : ℕ) (a : Nominal) (here r : TermId) → Abstracted T S0 S xs term left here → next + 1 ≡ left → a ≡ get_or xs next a
      → AddsTypedTerms T S U → Holds U r → tree_of T U r ≡ lam (nominal_of T a).type (codes "x") (close 0 (nominal (nominal_of T a)) (tree_of T S here))
      → Abstracted T S0 U xs term next r
  abstracted_more S U left next a here r so e at adds held made =
      let inside : next < length xs = omega (arith, so.within, e) in
      let rest : drop next xs ≡ a ∷ drop left xs = drop_more xs next a inside ∙ ap (λ x. x ∷ drop (next + 1) xs) (sym at) ∙ ap (λ n. a ∷ drop n xs) e in
      record {
        within = omega (arith, inside);
        held = held;
        tree =
            made
            ∙ ap (λ u. lam (nominal_of T a).type (codes "x") (close 0 (nominal (nominal_of T a)) u)) so.tree
            ∙ sym (ap (λ l. over_all T l (tree_of T S0 term)) rest);
        adds = typed_on T S0 S U so.adds adds;
      }

  pub abstracted_whole : (S : Contents) (left : ℕ) (here : TermId) → Abstracted T S0 S xs term left here → left ≡ 0 → tree_of T S here ≡ over_all T xs (tree_of T S0 term)
  abstracted_whole S left here so e = so.tree ∙ ap (λ n. over_all T (drop n xs) (tree_of T S0 term)) e
