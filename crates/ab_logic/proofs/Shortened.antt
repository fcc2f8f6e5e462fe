-- A world with the first of its additions alone: what it declares, and that it is one.
use Rattle.std.specs.Option.{option_map}
use Rattle.std.specs.List.{All, list_any}
use Rattle.std.proofs.Common.{◌≡◌, ℕ, zero, suc, ◌-◌, Bool, true, false, if◌then◌else◌, Option, Some, None, List, [], ◌∷◌, ◌++◌, take, drop, bytes_eq, refl, sym, ◌∙◌, ap, subst}
use Rattle.std.proofs.lemmas.List.{take-append-drop}
use Rattle.std.proofs.lemmas.List.Elements.{All-take}
use Rattle.ab_store.specs.ab_types.specs.Entries as table
use Rattle.ab_store.specs.ab_types.specs.Entries.{Table}
use Rattle.ab_term.specs.Terms.{Read}
use Rattle.ab_formulas.specs.Formulas.{IsSentence}
use Rattle.ab_formulas.specs.Declarations.{Declarations, Block, a_kind, a_constant, with_first, signature_in, theorem_in, block_in, IsDefining, HaveSentences, HaveDefinitions}
use Rattle.ab_logic.specs.Additions.{entry_or, entry_in}
use Rattle.ab_logic.specs.Worlds.{read, declared, definition_of, declaration_of, declared_from, declarations_of, CameInOrder, IsKept, IsWorld}
use Rattle.ab_logic.specs.declared.world.World.{World}
use Rattle.ab_logic.specs.declared.additions.Added.{Added}
use Rattle.ab_logic.specs.declared.additions.Addition.{Addition}
use Rattle.ab_logic.specs.declared.additions.Addition.TheVariants.{Theorem, Definition, Clause}
use Rattle.ab_logic.specs.declared.additions.TheoremEntry.{TheoremEntry}
use Rattle.ab_logic.proofs.Declaring.{in_rest, in_part, drop_on, theorem_found, block_in-append, block-declared, or_else, order_within, constants_are}

-- THE WORLD WITH ITS FIRST ADDITIONS ALONE
abbrev pub with_additions : World → List Added → World
with_additions w xs = record { types = w.types; store = w.store; additions = xs }

order_cut : (types : Table) (done n : ℕ) (xs : List Added) → CameInOrder types done xs → CameInOrder types done (take n xs)
order_cut types done zero xs order = order_within types done xs order
order_cut types done (suc n) [] order = order
order_cut types done (suc n) (a ∷ xs) order = (order.0, order_cut types a.before n xs order.1)

-- a front of the additions tells what all tell

entry_front : (n : ℕ) (xs : List Added) (name : List ℕ) (e : TheoremEntry) → entry_in (take n xs) name ≡ Some e → entry_in xs name ≡ Some e
entry_front zero xs name e there = absurd (cc)
entry_front (suc n) [] name e there = absurd (cc)
entry_front (suc n) (a ∷ xs) name e there = go a.what (entry_front n xs name e) there
  where
    test : (f : TheoremEntry) (t : Bool) → (entry_in (take n xs) name ≡ Some e → entry_in xs name ≡ Some e) → (if t then Some f else entry_in (take n xs) name) ≡ Some e → (if t then Some f else entry_in xs name) ≡ Some e
    test f true rest q = q
    test f false rest q = rest q

    go : (what : Addition) → (entry_in (take n xs) name ≡ Some e → entry_in xs name ≡ Some e) → entry_or what name (entry_in (take n xs) name) ≡ Some e → entry_or what name (entry_in xs name) ≡ Some e
    go (Theorem f) rest q = test f (bytes_eq name f.name) rest q
    go (Definition b) rest q = rest q
    go (Clause c h) rest q = rest q

same_declared : (w : World) (ys : List Added) (done : ℕ) (xs : List Added) → declared_from (with_additions w ys) done xs ≡ declared_from w done xs
same_declared w ys done [] = refl
same_declared w ys done (a ∷ xs) =
    ap (λ ds. take (a.before - done) (drop done (declared w.types)) ++ declaration_of w a.what ∷ ds) (same_declared w ys a.before xs)

module _ (w : World) where
  theorem_front : (n : ℕ) (name : List ℕ) (F : Read) → theorem_in (declared_from w 0 (take n w.additions)) name ≡ Some F → theorem_in (declared_from w 0 w.additions) name ≡ Some F
  theorem_front n name F there = go (entry_in (take n w.additions) name) refl (sym (theorem_found w 0 (take n w.additions) name) ∙ there)
    where
      go : (o : Option TheoremEntry) → entry_in (take n w.additions) name ≡ o → option_map (λ (e : TheoremEntry). read w e.formula) o ≡ Some F → theorem_in (declared_from w 0 w.additions) name ≡ Some F
      go None e q = absurd (cc)
      go (Some f) e q = theorem_found w 0 w.additions name ∙ ap (option_map (λ (e : TheoremEntry). read w e.formula)) (entry_front n w.additions name f e) ∙ q

  block_step : (done : ℕ) (a : Added) (xs : List Added) (p : List ℕ) → block_in (declared_from w done (a ∷ xs)) p ≡ block_in (declaration_of w a.what ∷ declared_from w a.before xs) p
  block_step done a xs p =
      block_in-append (take (a.before - done) (drop done (declared w.types))) (declaration_of w a.what ∷ declared_from w a.before xs) p
      ∙ ap (λ o. or_else o (block_in (declaration_of w a.what ∷ declared_from w a.before xs) p)) (in_part (λ ds. block_in ds p ≡ None) (λ t. block-declared t p) (a.before - done) done w.types)

  block_front : (n done : ℕ) (xs : List Added) (p : List ℕ) (b : Block) → block_in (declared_from w done (take n xs)) p ≡ Some b → block_in (declared_from w done xs) p ≡ Some b
  block_front zero done xs p b there = let none = sym (in_rest (λ ds. block_in ds p ≡ None) (λ t. block-declared t p) done w.types) ∙ there in absurd (cc)
  block_front (suc n) done [] p b there = there
  block_front (suc n) done (a ∷ xs) p b there =
      block_step done a xs p ∙ go a.what (block_front n a.before xs p b) (sym (block_step done a (take n xs) p) ∙ there)
    where
      test : (c : Block) (t : Bool) → (block_in (declared_from w a.before (take n xs)) p ≡ Some b → block_in (declared_from w a.before xs) p ≡ Some b)
          → (if t then Some c else block_in (declared_from w a.before (take n xs)) p) ≡ Some b → (if t then Some c else block_in (declared_from w a.before xs) p) ≡ Some b
      test c true rest q = q
      test c false rest q = rest q

      go : (what : Addition) → (block_in (declared_from w a.before (take n xs)) p ≡ Some b → block_in (declared_from w a.before xs) p ≡ Some b)
          → block_in (declaration_of w what ∷ declared_from w a.before (take n xs)) p ≡ Some b → block_in (declaration_of w what ∷ declared_from w a.before xs) p ≡ Some b
      go (Theorem e) rest q = rest q
      go (Clause c h) rest q = rest q
      go (Definition c) rest q = test (definition_of w c) (list_any (bytes_eq p) (definition_of w c).predicates) rest q

  -- what is declared then

  only_declared : (n : ℕ) (s : Table) (D : Declarations) → with_first n (declared s ++ D) ≡ declared s ++ with_first n D
  only_declared n [] D = refl
  only_declared n (table.a_kind k ∷ s) D = ap (λ ds. a_kind k ∷ ds) (only_declared n s D)
  only_declared n (table.a_type A ∷ s) D = only_declared n s D
  only_declared n (table.a_constant c ∷ s) D = ap (λ ds. a_constant c.name c.type ∷ ds) (only_declared n s D)

  all_declared : (n : ℕ) (s : Table) → with_first n (declared s) ≡ declared s
  all_declared n [] = refl
  all_declared n (table.a_kind k ∷ s) = ap (λ ds. a_kind k ∷ ds) (all_declared n s)
  all_declared n (table.a_type A ∷ s) = all_declared n s
  all_declared n (table.a_constant c ∷ s) = ap (λ ds. a_constant c.name c.type ∷ ds) (all_declared n s)

  dropped : (what : Addition) (D : Declarations) → with_first 0 (declaration_of w what ∷ D) ≡ with_first 0 D
  dropped (Theorem e) D = refl
  dropped (Definition b) D = refl
  dropped (Clause c h) D = refl

  stays : (n : ℕ) (what : Addition) (D : Declarations) → with_first (suc n) (declaration_of w what ∷ D) ≡ declaration_of w what ∷ with_first n D
  stays n (Theorem e) D = refl
  stays n (Definition b) D = refl
  stays n (Clause c h) D = refl

  part_stays : (n k done : ℕ) (D : Declarations) → with_first n (take k (drop done (declared w.types)) ++ D) ≡ take k (drop done (declared w.types)) ++ with_first n D
  part_stays n k done D = in_part (λ ds. with_first n (ds ++ D) ≡ ds ++ with_first n D) (λ t. only_declared n t D) k done w.types

  rest_stays : (n done : ℕ) → with_first n (drop done (declared w.types)) ≡ drop done (declared w.types)
  rest_stays n done = in_rest (λ ds. with_first n ds ≡ ds) (all_declared n) done w.types

  declared_front : (n done : ℕ) (xs : List Added) → CameInOrder w.types done xs → declared_from w done (take n xs) ≡ with_first n (declared_from w done xs)
  declared_front zero done [] order = sym (rest_stays 0 done)
  declared_front zero done (a ∷ xs) order =
      let k = a.before - done in
      let es = drop done (declared w.types) in
      sym (part_stays 0 k done (declaration_of w a.what ∷ declared_from w a.before xs)
      ∙ ap (λ ds. take k es ++ ds) (dropped a.what (declared_from w a.before xs) ∙ sym (declared_front zero a.before xs order.1))
      ∙ ap (λ zs. take k es ++ zs) (sym (drop_on done a.before (declared w.types) order.0))
      ∙ take-append-drop k es)
  declared_front (suc n) done [] order = sym (rest_stays (suc n) done)
  declared_front (suc n) done (a ∷ xs) order =
      let k = a.before - done in
      let es = drop done (declared w.types) in
      sym (part_stays (suc n) k done (declaration_of w a.what ∷ declared_from w a.before xs)
      ∙ ap (λ ds. take k es ++ ds) (stays n a.what (declared_from w a.before xs) ∙ ap (λ ds. declaration_of w a.what ∷ ds) (sym (declared_front n a.before xs order.1))))

  pub declares_front : (n : ℕ) → IsWorld w → declarations_of (with_additions w (take n w.additions)) ≡ with_first n (declarations_of w)
  declares_front n is = same_declared w (take n w.additions) 0 (take n w.additions) ∙ declared_front n 0 w.additions is.order

  same_signature : (n : ℕ) → IsWorld w → signature_in (declarations_of w) ≡ signature_in (declared_from w 0 (take n w.additions))
  same_signature n is = ap table.type_in (constants_are w 0 w.additions is.order ∙ sym (constants_are w 0 (take n w.additions) (order_cut w.types 0 n w.additions is.order)))

  pub world_front : (n : ℕ) → IsWorld w → IsWorld (with_additions w (take n w.additions))
  world_front n is =
      let same = same_declared w (take n w.additions) 0 (take n w.additions) in
      record {
        begins = is.begins;
        typed = is.typed;
        unbound = is.unbound;
        additions = All-take (λ (a : Added). IsKept w.types w.store a.what) n w.additions is.additions;
        order = order_cut w.types 0 n w.additions is.order;
        sentences =
            subst HaveSentences (sym same)
            (λ name F e. subst (λ sg. IsSentence sg F) (same_signature n is) (is.sentences name F (theorem_front n name F e)));
        definitions =
            subst HaveDefinitions (sym same)
            (λ p b e. subst (λ sg. All (IsDefining sg) b.clauses) (same_signature n is) (is.definitions p b (block_front n 0 w.additions p b e)));
      }
