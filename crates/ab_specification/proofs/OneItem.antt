-- An item declares one list, or is refused for one cause, and never both.
use Rattle.std.specs.Prelude.{Ok, Err, None, Some}
use Rattle.std.proofs.Common.{◌≡◌, ℕ, List, [], ◌∷◌, map, refl, sym, ◌∙◌, ap, subst}
use Rattle.ab_term.specs.Types.{o}
use Rattle.ab_grammar.specs.Tree as tree
use Rattle.ab_grammar.specs.CommandTrees as command
use Rattle.ab_grammar.specs.FileTrees.{Item}
use Rattle.ab_formulas.specs.Declarations.{Declarations, a_constant, a_program_clause, signature_in}
use Rattle.ab_formulas.specs.Programs.{IsProgramHead}
use Rattle.ab_formulas.specs.Clauses.{Clause}
use Rattle.ab_meaning.specs.Terms.{kinds_in}
use Rattle.ab_meaning.specs.Types.{IsDeclarable}
use Rattle.ab_declare.specs.declared.refusal.Refusal.{Refusal}
use Rattle.ab_declare.specs.declared.refusal.Refusal.TheVariants.{Clash, Unknown}
use Rattle.ab_declare.specs.DeclarationCommands.{Declares, new_kinds as declares_kinds, new_constants as declares_constants, Declines, kind_taken, constant_taken, type_unknown, type_unfit}
use Rattle.ab_specification.specs.ItemDeclarations.{ItemDeclares, new_kinds, new_constants, new_clause, no_declaration, ItemDeclines, no_kinds, no_constants, clause_unread, bad_head}
use Rattle.ab_specification.proofs.OneClause.{one_kept_clause, one_meaning, means_or_not, one_cause}

module _ (D : Declarations) where
  -- KINDS AND CONSTANTS

  kinds_or_not : (xs : List (List ℕ)) (more : Declarations) (r : Refusal) → Declares D (command.kinds xs) more → Declines D (command.kinds xs) r → ⊥
  kinds_or_not xs more r (declares_kinds free) (kind_taken {x = x} taken) = let bad : Some x ≡ None = sym taken ∙ free in cc

  one_kinds : (xs : List (List ℕ)) (more others : Declarations) → Declares D (command.kinds xs) more → Declares D (command.kinds xs) others → more ≡ others
  one_kinds xs more others (declares_kinds f) (declares_kinds g) = refl

  one_kinds_refusal : (xs : List (List ℕ)) (r q : Refusal) → Declines D (command.kinds xs) r → Declines D (command.kinds xs) q → r ≡ q
  one_kinds_refusal xs r q (kind_taken {x = x} a) (kind_taken {x = y} b) =
      let both : Some x ≡ Some y = sym a ∙ b in
      let one : x ≡ y = cc in
      ap (λ z. Clash z None) one

  module _ (xs : List (List ℕ)) (w : tree.Ty) where
    constants_or_not : (more : Declarations) (r : Refusal) → Declares D (command.constants xs w) more → Declines D (command.constants xs w) r → ⊥
    constants_or_not more r (declares_constants free reads fit) (constant_taken {x = x} taken) = let bad : Some x ≡ None = sym taken ∙ free in cc
    constants_or_not more r (declares_constants {A = A} free reads fit) (type_unknown {x = x} also unknown) = let bad : Ok A ≡ Err x = sym reads ∙ unknown in cc
    constants_or_not more r (declares_constants {A = A} free reads fit) (type_unfit {A = B} also is unfit) =
        let both : Ok A ≡ Ok B = sym reads ∙ is in
        let one : A ≡ B = cc in
        unfit (subst IsDeclarable one fit)

    one_constants : (more others : Declarations) → Declares D (command.constants xs w) more → Declares D (command.constants xs w) others → more ≡ others
    one_constants more others (declares_constants {A = A} free reads fit) (declares_constants {A = B} also is fits) =
        let both : Ok A ≡ Ok B = sym reads ∙ is in
        let one : A ≡ B = cc in
        ap (λ C. map (λ x. a_constant x C) xs) one

    one_constants_refusal : (r q : Refusal) → Declines D (command.constants xs w) r → Declines D (command.constants xs w) q → r ≡ q
    one_constants_refusal r q (constant_taken {x = x} a) (constant_taken {x = y} b) =
        let both : Some x ≡ Some y = sym a ∙ b in
        let one : x ≡ y = cc in
        ap (λ z. Clash z None) one
    one_constants_refusal r q (constant_taken {x = x} a) (type_unknown free b) = let bad : Some x ≡ None = sym a ∙ free in absurd (cc)
    one_constants_refusal r q (constant_taken {x = x} a) (type_unfit free b c) = let bad : Some x ≡ None = sym a ∙ free in absurd (cc)
    one_constants_refusal r q (type_unknown free a) (constant_taken {x = x} b) = let bad : Some x ≡ None = sym b ∙ free in absurd (cc)
    one_constants_refusal r q (type_unknown {x = x} free a) (type_unknown {x = y} also b) =
        let both : Err x ≡ Err y = sym a ∙ b in
        let one : x ≡ y = cc in
        ap (λ z. Unknown z None) one
    one_constants_refusal r q (type_unknown {x = x} free a) (type_unfit {A = B} also b c) = let bad : Err x ≡ Ok B = sym a ∙ b in absurd (cc)
    one_constants_refusal r q (type_unfit free a c) (constant_taken {x = x} b) = let bad : Some x ≡ None = sym b ∙ free in absurd (cc)
    one_constants_refusal r q (type_unfit {A = A} free a c) (type_unknown {x = x} also b) = let bad : Err x ≡ Ok A = sym b ∙ a in absurd (cc)
    one_constants_refusal r q (type_unfit free a c) (type_unfit also b d) = refl

  -- AN ITEM

  module _ (n : ℕ) where
    pub item_or_not : (i : Item) (more : Declarations) (r : Refusal) → ItemDeclares D i more → ItemDeclines D n i r → ⊥
    item_or_not i more r (new_kinds {xs = xs} a) (no_kinds b) = kinds_or_not xs more r a b
    item_or_not i more r (new_constants {xs = xs} {A = w} a) (no_constants b) = constants_or_not xs w more r a b
    item_or_not i more r (new_clause {c = c} a) (clause_unread f b is) = means_or_not (kinds_in D) (signature_in D) c o f r a.means b is
    item_or_not i more r (new_clause {c = c} a) (bad_head b) = b.no_atom (subst (λ (k : Clause). IsProgramHead k.head) (one_kept_clause (kinds_in D) (signature_in D) c o a.means b.means) a.atom)
    item_or_not i more r no_declaration b = elim b [ ]

    pub one_declaring : (i : Item) (more others : Declarations) → ItemDeclares D i more → ItemDeclares D i others → more ≡ others
    one_declaring i more others (new_kinds {xs = xs} a) (new_kinds b) = one_kinds xs more others a b
    one_declaring i more others (new_constants {xs = xs} {A = w} a) (new_constants b) = one_constants xs w more others a b
    one_declaring i more others (new_clause {c = c} a) (new_clause b) = ap (λ k. a_program_clause k ∷ []) (one_meaning (kinds_in D) (signature_in D) c o a.means b.means)
    one_declaring i more others no_declaration no_declaration = refl

    pub one_refusing : (i : Item) (r q : Refusal) → ItemDeclines D n i r → ItemDeclines D n i q → r ≡ q
    one_refusing i r q (no_kinds {xs = xs} a) (no_kinds b) = one_kinds_refusal xs r q a b
    one_refusing i r q (no_constants {xs = xs} {A = w} a) (no_constants b) = one_constants_refusal xs w r q a b
    one_refusing i r q (clause_unread {c = c} f a is) (clause_unread g b too) = one_cause (kinds_in D) (signature_in D) c o f g r q a is b too
    one_refusing i r q (clause_unread {c = c} f a is) (bad_head b) = absurd (means_or_not (kinds_in D) (signature_in D) c o f r b.means a is)
    one_refusing i r q (bad_head a) (clause_unread {c = c} f b is) = absurd (means_or_not (kinds_in D) (signature_in D) c o f q a.means b is)
    one_refusing i r q (bad_head a) (bad_head b) = refl
