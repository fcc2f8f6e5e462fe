-- Hypotheses that are named, one after another, and holes.
use Rattle.std.specs.Prelude.{Bool, true, false, Option, Some, None, if◌then◌else◌, All}
use Rattle.std.specs.Option.{option_map}
use Rattle.std.proofs.Common.{◌≡◌, ℕ, zero, suc, ◌+◌, ◌<◌, List, [], ◌∷◌, ◌++◌, map, length, take, drop, get_or, refl, sym, ◌∙◌, ap, arith, append_assoc}
use Rattle.std.proofs.lemmas.List.{map-append, map_more, drop_more}
use Rattle.std.proofs.lemmas.List.Elements.{All-cons, All-nil}
use Rattle.ab_term.specs.Terms.{Read}
use Rattle.ab_norm.specs.ab_store.specs.declared.node.TermId.{TermId}
use Rattle.ab_grammar.specs.CommandTrees.{Argument, named, hole}
use Rattle.ab_syntax.specs.Commands.{argument_of}
use Rattle.ab_syntax.specs.declared.command.Argument.{Argument as KeptArgument}
use Rattle.ab_formulas.specs.Sequents.{Sequent, formula_of}
use Rattle.ab_logic.specs.Worlds.{read}
use Rattle.ab_logic.specs.declared.world.World.{World}
use Rattle.ab_uses.specs.GivenReadings.{HoldsIfAny}
use Rattle.ab_effects.specs.ProofCommands.{is_used, missing, repeated}
use Rattle.ab_meaning.specs.Refusals.{Refusal, no_hypothesis}
use Rattle.ab_effects.specs.FormulaUses.{names_in, formulas_in}

-- THE FIRST THAT IS MISSING: that of the first argument, or else of the others

first_so : (b : Bool) (o : Option Refusal) (x r : Refusal) → (if b then None else Some x) ≡ Some r → (if b then o else Some x) ≡ Some r
first_so true o x r e = let clash : None ≡ Some r = e in absurd (cc)
first_so false o x r e = e

others_so : (b : Bool) (o : Option Refusal) (x : Refusal) → (if b then None else Some x) ≡ None → (if b then o else Some x) ≡ o
others_so true o x e = refl
others_so false o x e = let clash : Some x ≡ None = e in absurd (cc)

missing_first : (v : Argument) (vs : List Argument) (s : Sequent) (r : Refusal) → missing (names_in (v ∷ [])) s ≡ Some r → missing (names_in (v ∷ vs)) s ≡ Some r
missing_first hole vs s r e = let clash : None ≡ Some r = e in absurd (cc)
missing_first (named H) vs s r e = first_so (is_used s H) (missing (names_in vs) s) (no_hypothesis H) r e

missing_behind : (v : Argument) (vs : List Argument) (s : Sequent) → missing (names_in (v ∷ [])) s ≡ None → missing (names_in (v ∷ vs)) s ≡ missing (names_in vs) s
missing_behind hole vs s e = refl
missing_behind (named H) vs s e = others_so (is_used s H) (missing (names_in vs) s) (no_hypothesis H) e

module _ (xs : List KeptArgument) (k : ℕ) (x : KeptArgument) (l : k < length xs) (is : x ≡ get_or xs k x) where
  this_first : map argument_of (drop k xs) ≡ argument_of x ∷ map argument_of (drop (k + 1) xs)
  this_first = ap (map argument_of) (drop_more xs k x l) ∙ ap (λ y. argument_of y ∷ map argument_of (drop (k + 1) xs)) (sym is)

  this_last : map argument_of (take (k + 1) xs) ≡ map argument_of (take k xs) ++ argument_of x ∷ []
  this_last = map_more argument_of xs k x l ∙ ap (λ y. map argument_of (take k xs) ++ argument_of y ∷ []) (sym is)

  pub missing_here : (s : Sequent) (r : Refusal) → missing (names_in (argument_of x ∷ [])) s ≡ Some r → missing (names_in (map argument_of (drop k xs))) s ≡ Some r
  missing_here s r e = ap (λ vs. missing (names_in vs) s) this_first ∙ missing_first (argument_of x) (map argument_of (drop (k + 1) xs)) s r e

  pub missing_later : (s : Sequent) → missing (names_in (argument_of x ∷ [])) s ≡ None → missing (names_in (map argument_of (drop k xs))) s ≡ missing (names_in (map argument_of (drop (k + 1) xs))) s
  missing_later s e = ap (λ vs. missing (names_in vs) s) this_first ∙ missing_behind (argument_of x) (map argument_of (drop (k + 1) xs)) s e

  -- THEIR FORMULAS, of which one more is put behind the others
  pub formula_added : (w : World) (s : Sequent) (old now new : List (Option TermId)) (o : Option TermId) → new ≡ now ++ o ∷ []
      → map (option_map (read w)) now ≡ map (option_map (read w)) old ++ formulas_in s (map argument_of (take k xs)) → option_map (read w) o ∷ [] ≡ formulas_in s (argument_of x ∷ [])
      → map (option_map (read w)) new ≡ map (option_map (read w)) old ++ formulas_in s (map argument_of (take (k + 1) xs))
  formula_added w s old now new o pushed before here =
      let f = option_map (read w) in
      let vs = map argument_of (take k xs) in
      ap (map f) pushed
      ∙ map-append f now (o ∷ [])
      ∙ ap (λ l. l ++ f o ∷ []) before
      ∙ append_assoc (map f old) (formulas_in s vs) (f o ∷ [])
      ∙ ap (λ l. map f old ++ (formulas_in s vs ++ l)) here
      ∙ ap (λ l. map f old ++ l) (sym (formulas_more vs (argument_of x) s))
      ∙ ap (λ us. map f old ++ formulas_in s us) (sym this_last)
    where
      formulas_more : (us : List Argument) (v : Argument) (s : Sequent) → formulas_in s (us ++ v ∷ []) ≡ formulas_in s us ++ formulas_in s (v ∷ [])
      formulas_more [] v s = refl
      formulas_more (named H ∷ us) v s = ap (λ l. formula_of s H ∷ l) (formulas_more us v s)
      formulas_more (hole ∷ us) v s = ap (λ l. None ∷ l) (formulas_more us v s)

-- HOLES ALONE
abbrev pub nothings : ℕ → List (Option TermId)
nothings zero = []
nothings (suc n) = None ∷ nothings n

nothings_push : (n : ℕ) → nothings n ++ None ∷ [] ≡ None ∷ nothings n
nothings_push zero = refl
nothings_push (suc n) = ap (λ l. None ∷ l) (nothings_push n)

pub nothings_more : (n : ℕ) → nothings n ++ None ∷ [] ≡ nothings (n + 1)
nothings_more n = let more : suc n ≡ n + 1 = omega arith in nothings_push n ∙ ap nothings more

pub nothings_read : (w : World) (n : ℕ) → map (option_map (read w)) (nothings n) ≡ repeated n
nothings_read w zero = refl
nothings_read w (suc n) = ap (λ l. None ∷ l) (nothings_read w n)

pub nothings_held : (w : World) (n : ℕ) → All (HoldsIfAny w) (nothings n)
nothings_held w zero = All-nil (HoldsIfAny w)
nothings_held w (suc n) = All-cons (HoldsIfAny w) None (nothings n) tt (nothings_held w n)
