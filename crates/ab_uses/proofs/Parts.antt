-- The terms and the types that parts name, and what they stand for.
use Rattle.std.specs.List.{All}
use Rattle.std.proofs.Common.{◌≡◌, ℕ, ◌+◌, ◌<◌, List, [], ◌∷◌, ◌++◌, length, map, take, get_or, refl, sym, ◌∙◌, ap}
use Rattle.std.proofs.lemmas.List.{take_more, map-append}
use Rattle.std.proofs.lemmas.List.Elements.{All-nil, All-cons, All-head, All-tail}
use Rattle.ab_term.specs.Terms as tree
use Rattle.ab_term.specs.Names.{support, support_of_all}
use Rattle.ab_norm.specs.ab_types.specs.Entries.{Table}
use Rattle.ab_norm.specs.ab_types.specs.Ids.{HoldsType, type_of}
use Rattle.ab_norm.specs.ab_store.specs.declared.node.TermId.{TermId}
use Rattle.ab_norm.specs.ab_store.specs.Trees.{Contents, Holds, tree_of}
use Rattle.ab_norm.specs.declared.nominal.Nominal.{Nominal}
use Rattle.ab_norm.specs.Nominals.{nominal_of}
use Rattle.ab_unifiers.specs.Choices.{in_order}
use Rattle.ab_alternatives.specs.ab_instances.specs.ListReadings.{names_read, given_at}
use Rattle.ab_theory.specs.Pieces as plain
use Rattle.ab_theory.specs.Uses.{types_chosen, given_constants}
use Rattle.ab_uses.specs.UseCells.{HoldsPart, parts_read}
use Rattle.ab_uses.specs.declared.part.Part.{Part}
use Rattle.ab_uses.specs.declared.part.Part.TheVariants.{Variable, Given, Constant, Antecedent}
use Rattle.ab_uses.specs.NamedTerms.{terms_named, types_named}

terms_more : (ps : List Part) (p : Part) → terms_named (ps ++ p ∷ []) ≡ terms_named ps ++ terms_named (p ∷ [])
terms_more [] (Variable x a) = refl
terms_more [] (Given t) = refl
terms_more [] (Constant a) = refl
terms_more [] Antecedent = refl
terms_more (Variable x a ∷ ps) p = terms_more ps p
terms_more (Given t ∷ ps) p = ap (λ l. t ∷ l) (terms_more ps p)
terms_more (Constant a ∷ ps) p = terms_more ps p
terms_more (Antecedent ∷ ps) p = terms_more ps p

types_more : (ps : List Part) (p : Part) → types_named (ps ++ p ∷ []) ≡ types_named ps ++ types_named (p ∷ [])
types_more [] (Variable x a) = refl
types_more [] (Given t) = refl
types_more [] (Constant a) = refl
types_more [] Antecedent = refl
types_more (Variable x a ∷ ps) p = types_more ps p
types_more (Given t ∷ ps) p = types_more ps p
types_more (Constant a ∷ ps) p = ap (λ l. a ∷ l) (types_more ps p)
types_more (Antecedent ∷ ps) p = types_more ps p

module _ (ps : List Part) (i : ℕ) (p : Part) (l : i < length ps) (is : p ≡ get_or ps i p) where
  pub terms_step : terms_named (take (i + 1) ps) ≡ terms_named (take i ps) ++ terms_named (p ∷ [])
  terms_step = ap terms_named (take_more ps i p l ∙ ap (λ q. take i ps ++ q ∷ []) (sym is)) ∙ terms_more (take i ps) p

  pub types_step : types_named (take (i + 1) ps) ≡ types_named (take i ps) ++ types_named (p ∷ [])
  types_step = ap types_named (take_more ps i p l ∙ ap (λ q. take i ps ++ q ∷ []) (sym is)) ∙ types_more (take i ps) p

module _ (types : Table) (store : Contents) where
  pub constants_named : (ps : List Part) → support_of_all (given_at types store (terms_named ps)) ≡ given_constants (parts_read types store ps)
  constants_named [] = refl
  constants_named (Variable x a ∷ ps) = constants_named ps
  constants_named (Given t ∷ ps) = ap (λ l. support (tree_of types store t) ++ l) (constants_named ps)
  constants_named (Constant a ∷ ps) = constants_named ps
  constants_named (Antecedent ∷ ps) = constants_named ps

  pub types_read : (ps : List Part) → map (type_of types) (types_named ps) ≡ types_chosen (parts_read types store ps)
  types_read [] = refl
  types_read (Variable x a ∷ ps) = types_read ps
  types_read (Given t ∷ ps) = types_read ps
  types_read (Constant a ∷ ps) = ap (λ l. type_of types a ∷ l) (types_read ps)
  types_read (Antecedent ∷ ps) = types_read ps

  pub terms_held : (ps : List Part) → All (HoldsPart types store) ps → All (Holds store) (terms_named ps)
  terms_held [] all = All-nil (Holds store)
  terms_held (Variable x a ∷ ps) all = terms_held ps (All-tail (HoldsPart types store) (Variable x a) ps all)
  terms_held (Given t ∷ ps) all = All-cons (Holds store) t (terms_named ps) (All-head (HoldsPart types store) (Given t) ps all) (terms_held ps (All-tail (HoldsPart types store) (Given t) ps all))
  terms_held (Constant a ∷ ps) all = terms_held ps (All-tail (HoldsPart types store) (Constant a) ps all)
  terms_held (Antecedent ∷ ps) all = terms_held ps (All-tail (HoldsPart types store) Antecedent ps all)

  pub types_held : (ps : List Part) → All (HoldsPart types store) ps → All (HoldsType types) (types_named ps)
  types_held [] all = All-nil (HoldsType types)
  types_held (Variable x a ∷ ps) all = types_held ps (All-tail (HoldsPart types store) (Variable x a) ps all)
  types_held (Given t ∷ ps) all = types_held ps (All-tail (HoldsPart types store) (Given t) ps all)
  types_held (Constant a ∷ ps) all = All-cons (HoldsType types) a (types_named ps) (All-head (HoldsPart types store) (Constant a) ps all) (types_held ps (All-tail (HoldsPart types store) (Constant a) ps all))
  types_held (Antecedent ∷ ps) all = types_held ps (All-tail (HoldsPart types store) Antecedent ps all)

  -- the constants that aren't new: the goal's, and then those of the terms that are given
  pub known_read : (held more known : List Nominal) (terms : List TermId) (ps : List Part) (ns : List tree.Nominal) (qs : List plain.Part)
      → known ≡ held ++ more → names_read types held ≡ in_order ns → names_read types more ≡ in_order (support_of_all (given_at types store terms)) → terms ≡ terms_named ps → parts_read types store ps ≡ qs
      → names_read types known ≡ in_order ns ++ in_order (given_constants qs)
  known_read held more known terms ps ns qs all first second given read =
      ap (names_read types) all
      ∙ map-append (nominal_of types) held more
      ∙ ap (λ l. l ++ names_read types more) first
      ∙ ap (λ l. in_order ns ++ l) (second ∙ ap (λ ts. in_order (support_of_all (given_at types store ts))) given ∙ ap in_order (constants_named ps ∙ ap given_constants read))
