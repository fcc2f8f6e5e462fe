-- What the declarations of a world say, where it is new, where its table has grown, and where something was added.
use Rattle.std.specs.Option.{option_map}
use Rattle.std.specs.List.{All}
use Rattle.std.proofs.Common.{◌≡◌, ℕ, zero, suc, ◌+◌, ◌-◌, ◌≤◌, Bool, true, false, if◌then◌else◌, Some, None, List, [], ◌∷◌, ◌++◌, length, map, take, drop, bytes_eq, refl, sym, ◌∙◌, ap, subst, arith, append_assoc, length-drop, length-append}
use Rattle.std.proofs.lemmas.List.{take_all, take-append-le, drop-append-le, take-append-drop, drop-drop}
use Rattle.std.proofs.lemmas.List.Elements.{All-head, All-tail}
use Rattle.ab_store.specs.ab_types.specs.Entries as table
use Rattle.ab_store.specs.ab_types.specs.Entries.{Table}
use Rattle.ab_term.specs.Constants.{Constant}
use Rattle.ab_term.specs.Terms.{Read}
use Rattle.ab_formulas.specs.Declarations.{Declarations, a_kind, a_constant, constants_in, theorem_in, theorems_in, assumed_in, assumptions_in, block_in, HaveSentences, HaveDefinitions}
use Rattle.ab_formulas.proofs.TheoremPlaces.{of_first, assumed_in-append, assumptions_in-append}
use Rattle.ab_logic.specs.Additions.{entry_or, entry_in, entries_with, entries_of, places_in}
use Rattle.ab_logic.specs.Worlds.{read, declared, declaration_of, declared_from, CameInOrder}
use Rattle.ab_logic.specs.declared.world.World.{World}
use Rattle.ab_logic.specs.declared.additions.Added.{Added}
use Rattle.ab_logic.specs.declared.additions.Addition.{Addition}
use Rattle.ab_logic.specs.declared.additions.Addition.TheVariants.{Theorem, Definition, Clause as AClause}
use Rattle.ab_logic.specs.declared.additions.TheoremEntry.{TheoremEntry}
pub use Rattle.ab_formulas.proofs.Declaring.{constants_in-append, theorems_in-append, or_else, or_else_test, theorem_in-append, block_in-append, still_theorem, type_in-append, more_constants, still_formula, still_sentence, extends_not, extends_on, still_defining, sentences_behind, definitions_behind, sentences_added, sentences_defined, definitions_added, definitions_defined}

-- lists of declarations, one behind another

pub declared-append : (s t : Table) → declared (s ++ t) ≡ declared s ++ declared t
declared-append [] t = refl
declared-append (table.a_kind k ∷ s) t = ap (λ ds. a_kind k ∷ ds) (declared-append s t)
declared-append (table.a_type A ∷ s) t = declared-append s t
declared-append (table.a_constant c ∷ s) t = ap (λ ds. a_constant c.name c.type ∷ ds) (declared-append s t)

-- a part of what a table declares is what a table declares

take-declared : (n : ℕ) (s : Table) → (t : Table) × (take n (declared s) ≡ declared t)
take-declared zero s = ([], refl)
take-declared (suc n) [] = ([], refl)
take-declared (suc n) (table.a_kind k ∷ s) = let p = take-declared n s in (table.a_kind k ∷ p.0, ap (λ ds. a_kind k ∷ ds) p.1)
take-declared (suc n) (table.a_type A ∷ s) = take-declared (suc n) s
take-declared (suc n) (table.a_constant c ∷ s) = let p = take-declared n s in (table.a_constant c ∷ p.0, ap (λ ds. a_constant c.name c.type ∷ ds) p.1)

drop-declared : (n : ℕ) (s : Table) → (t : Table) × (drop n (declared s) ≡ declared t)
drop-declared zero s = (s, refl)
drop-declared (suc n) [] = ([], refl)
drop-declared (suc n) (table.a_kind k ∷ s) = drop-declared n s
drop-declared (suc n) (table.a_type A ∷ s) = drop-declared (suc n) s
drop-declared (suc n) (table.a_constant c ∷ s) = drop-declared n s

-- so what is true of all that tables declare is true of it
module _ (P : Declarations → Type 0) (all : (t : Table) → P (declared t)) where
  pub in_rest : (done : ℕ) (s : Table) → P (drop done (declared s))
  in_rest done s = let p = drop-declared done s in subst P (sym p.1) (all p.0)

  pub in_part : (k done : ℕ) (s : Table) → P (take k (drop done (declared s)))
  in_part k done s =
      let p = drop-declared done s in
      let q = take-declared k p.0 in
      subst P (sym (ap (take k) p.1 ∙ q.1)) (all q.0)

pub constants-declared : (s : Table) → constants_in (declared s) ≡ table.constants s
constants-declared [] = refl
constants-declared (table.a_kind k ∷ s) = constants-declared s
constants-declared (table.a_type A ∷ s) = constants-declared s
constants-declared (table.a_constant c ∷ s) = ap (λ cs. c ∷ cs) (constants-declared s)

-- how many kinds and constants a table declares
pub length-declared : (s : Table) → length (declared s) ≡ length (table.kinds s) + length (table.constants s)
length-declared [] = refl
length-declared (table.a_kind k ∷ s) = omega (arith, length-declared s)
length-declared (table.a_type A ∷ s) = length-declared s
length-declared (table.a_constant c ∷ s) = omega (arith, length-declared s)

pub theorems-declared : (s : Table) → theorems_in (declared s) ≡ []
theorems-declared [] = refl
theorems-declared (table.a_kind k ∷ s) = theorems-declared s
theorems-declared (table.a_type A ∷ s) = theorems-declared s
theorems-declared (table.a_constant c ∷ s) = theorems-declared s

pub theorem-declared : (s : Table) (name : List ℕ) → theorem_in (declared s) name ≡ None
theorem-declared [] name = refl
theorem-declared (table.a_kind k ∷ s) name = theorem-declared s name
theorem-declared (table.a_type A ∷ s) name = theorem-declared s name
theorem-declared (table.a_constant c ∷ s) name = theorem-declared s name

pub assumptions-declared : (s : Table) → assumptions_in (declared s) ≡ []
assumptions-declared [] = refl
assumptions-declared (table.a_kind k ∷ s) = assumptions-declared s
assumptions-declared (table.a_type A ∷ s) = assumptions-declared s
assumptions-declared (table.a_constant c ∷ s) = assumptions-declared s

pub assumed-declared : (s : Table) (name : List ℕ) → assumed_in (declared s) name ≡ []
assumed-declared [] name = refl
assumed-declared (table.a_kind k ∷ s) name = assumed-declared s name
assumed-declared (table.a_type A ∷ s) name = assumed-declared s name
assumed-declared (table.a_constant c ∷ s) name = assumed-declared s name

pub block-declared : (s : Table) (p : List ℕ) → block_in (declared s) p ≡ None
block-declared [] p = refl
block-declared (table.a_kind k ∷ s) p = block-declared s p
block-declared (table.a_type A ∷ s) p = block-declared s p
block-declared (table.a_constant c ∷ s) p = block-declared s p

-- of a table's entries, of one theorem, or of one definition

pub sentences_declared : (D : Declarations) (s : Table) → HaveSentences D → HaveSentences (D ++ declared s)
sentences_declared D s all = sentences_behind D (declared s) all (λ name F e. let none = sym (theorem-declared s name) ∙ e in absurd (cc))

pub definitions_declared : (D : Declarations) (s : Table) → HaveDefinitions D → HaveDefinitions (D ++ declared s)
definitions_declared D s all = definitions_behind D (declared s) all (λ p b e. let none = sym (block-declared s p) ∙ e in absurd (cc))

-- the declarations of a world, one addition after another

constant_in_none : (w : World) (what : Addition) (ds : Declarations) → constants_in (declaration_of w what ∷ ds) ≡ constants_in ds
constant_in_none w (Theorem e) ds = refl
constant_in_none w (Definition b) ds = refl
constant_in_none w (AClause c h) ds = refl

pub theorem_found : (w : World) (done : ℕ) (xs : List Added) (name : List ℕ) → theorem_in (declared_from w done xs) name ≡ option_map (λ (e : TheoremEntry). read w e.formula) (entry_in xs name)
theorem_found w done [] name = in_rest (λ ds. theorem_in ds name ≡ None) (λ t. theorem-declared t name) done w.types
theorem_found w done (a ∷ xs) name =
    let front = take (a.before - done) (drop done (declared w.types)) in
    theorem_in-append front (declaration_of w a.what ∷ declared_from w a.before xs) name
    ∙ ap (λ o. or_else o (theorem_in (declaration_of w a.what ∷ declared_from w a.before xs) name)) (in_part (λ ds. theorem_in ds name ≡ None) (λ t. theorem-declared t name) (a.before - done) done w.types)
    ∙ one a.what (theorem_found w a.before xs name)
  where
    test : (e : TheoremEntry) (b : Bool) → theorem_in (declared_from w a.before xs) name ≡ option_map (λ (e : TheoremEntry). read w e.formula) (entry_in xs name)
        → (if b then Some (read w e.formula) else theorem_in (declared_from w a.before xs) name) ≡ option_map (λ (e : TheoremEntry). read w e.formula) (if b then Some e else entry_in xs name)
    test e true rest = refl
    test e false rest = rest

    one : (what : Addition) → theorem_in (declared_from w a.before xs) name ≡ option_map (λ (e : TheoremEntry). read w e.formula) (entry_in xs name)
        → theorem_in (declaration_of w what ∷ declared_from w a.before xs) name ≡ option_map (λ (e : TheoremEntry). read w e.formula) (entry_or what name (entry_in xs name))
    one (Theorem e) rest = test e (bytes_eq name e.name) rest
    one (Definition b) rest = rest
    one (AClause c h) rest = rest

pub assumed_found : (w : World) (done : ℕ) (xs : List Added) (name : List ℕ) → assumed_in (declared_from w done xs) name ≡ places_in (entry_in xs name)
assumed_found w done [] name = in_rest (λ ds. assumed_in ds name ≡ []) (λ t. assumed-declared t name) done w.types
assumed_found w done (a ∷ xs) name =
    let front = take (a.before - done) (drop done (declared w.types)) in
    assumed_in-append front (declaration_of w a.what ∷ declared_from w a.before xs) name
    ∙ ap (λ o. of_first o (assumed_in front name) (assumed_in (declaration_of w a.what ∷ declared_from w a.before xs) name)) (in_part (λ ds. theorem_in ds name ≡ None) (λ t. theorem-declared t name) (a.before - done) done w.types)
    ∙ one a.what (assumed_found w a.before xs name)
  where
    test : (e : TheoremEntry) (b : Bool) → assumed_in (declared_from w a.before xs) name ≡ places_in (entry_in xs name)
        → (if b then e.assumed else assumed_in (declared_from w a.before xs) name) ≡ places_in (if b then Some e else entry_in xs name)
    test e true rest = refl
    test e false rest = rest

    one : (what : Addition) → assumed_in (declared_from w a.before xs) name ≡ places_in (entry_in xs name)
        → assumed_in (declaration_of w what ∷ declared_from w a.before xs) name ≡ places_in (entry_or what name (entry_in xs name))
    one (Theorem e) rest = test e (bytes_eq name e.name) rest
    one (Definition b) rest = rest
    one (AClause c h) rest = rest

abbrev pub shown : World → TheoremEntry → List ℕ × Read
shown w e = (e.name, read w e.formula)

pub theorems_are : (w : World) (done : ℕ) (xs : List Added) → theorems_in (declared_from w done xs) ≡ map (shown w) (entries_of xs)
theorems_are w done [] = in_rest (λ ds. theorems_in ds ≡ []) theorems-declared done w.types
theorems_are w done (a ∷ xs) =
    theorems_in-append (take (a.before - done) (drop done (declared w.types))) (declaration_of w a.what ∷ declared_from w a.before xs)
    ∙ ap (λ ts. ts ++ theorems_in (declaration_of w a.what ∷ declared_from w a.before xs)) (in_part (λ ds. theorems_in ds ≡ []) theorems-declared (a.before - done) done w.types)
    ∙ one a.what (theorems_are w a.before xs)
  where
    one : (what : Addition) → theorems_in (declared_from w a.before xs) ≡ map (shown w) (entries_of xs)
        → theorems_in (declaration_of w what ∷ declared_from w a.before xs) ≡ map (shown w) (entries_with what (entries_of xs))
    one (Theorem e) rest = ap (λ ts. shown w e ∷ ts) rest
    one (Definition b) rest = rest
    one (AClause c h) rest = rest

abbrev pub kept_places : TheoremEntry → List ℕ
kept_places e = e.assumed

pub assumptions_are : (w : World) (done : ℕ) (xs : List Added) → assumptions_in (declared_from w done xs) ≡ map kept_places (entries_of xs)
assumptions_are w done [] = in_rest (λ ds. assumptions_in ds ≡ []) assumptions-declared done w.types
assumptions_are w done (a ∷ xs) =
    assumptions_in-append (take (a.before - done) (drop done (declared w.types))) (declaration_of w a.what ∷ declared_from w a.before xs)
    ∙ ap (λ l. l ++ assumptions_in (declaration_of w a.what ∷ declared_from w a.before xs)) (in_part (λ ds. assumptions_in ds ≡ []) assumptions-declared (a.before - done) done w.types)
    ∙ one a.what (assumptions_are w a.before xs)
  where
    one : (what : Addition) → assumptions_in (declared_from w a.before xs) ≡ map kept_places (entries_of xs)
        → assumptions_in (declaration_of w what ∷ declared_from w a.before xs) ≡ map kept_places (entries_with what (entries_of xs))
    one (Theorem e) rest = ap (λ l. kept_places e ∷ l) rest
    one (Definition b) rest = rest
    one (AClause c h) rest = rest

pub order_within : (types : Table) (done : ℕ) (xs : List Added) → CameInOrder types done xs → done ≤ length (declared types)
order_within types done [] order = order
order_within types done (a ∷ xs) order = omega (arith, order.0, order_within types a.before xs order.1)

constants_split : (k : ℕ) (ds : Declarations) → constants_in (take k ds) ++ constants_in (drop k ds) ≡ constants_in ds
constants_split k ds = sym (constants_in-append (take k ds) (drop k ds)) ∙ ap constants_in (take-append-drop k ds)

pub drop_on : (done before : ℕ) (ds : Declarations) → done ≤ before → drop (before - done) (drop done ds) ≡ drop before ds
drop_on done before ds l =
    let e : done + (before - done) ≡ before = omega arith in
    drop-drop (before - done) done ds ∙ ap (λ k. drop k ds) e

constants_behind : (w : World) (done : ℕ) (xs : List Added) → CameInOrder w.types done xs → constants_in (declared_from w done xs) ≡ constants_in (drop done (declared w.types))
constants_behind w done [] order = refl
constants_behind w done (a ∷ xs) order =
    let es = drop done (declared w.types) in
    let k = a.before - done in
    constants_in-append (take k es) (declaration_of w a.what ∷ declared_from w a.before xs)
    ∙ ap (λ cs. constants_in (take k es) ++ cs) (constant_in_none w a.what (declared_from w a.before xs) ∙ constants_behind w a.before xs order.1 ∙ ap constants_in (sym (drop_on done a.before (declared w.types) order.0)))
    ∙ constants_split k es

-- the constants of a table behind so many kinds and constants; behind none, all
abbrev pub constants_from : ℕ → Table → List Constant
constants_from zero types = table.constants types
constants_from (suc n) types = constants_in (drop (suc n) (declared types))

pub constants_are : (w : World) (done : ℕ) (xs : List Added) → CameInOrder w.types done xs → constants_in (declared_from w done xs) ≡ constants_from done w.types
constants_are w zero xs order = constants_behind w zero xs order ∙ constants-declared w.types
constants_are w (suc n) xs order = constants_behind w (suc n) xs order

-- an addition is put behind all
pub declared_added : (w : World) (done : ℕ) (xs : List Added) (a : Added) → CameInOrder w.types done xs → a.before ≡ length (declared w.types)
    → declared_from w done (xs ++ a ∷ []) ≡ declared_from w done xs ++ declaration_of w a.what ∷ []
declared_added w done [] a order e =
    let es = drop done (declared w.types) in
    let long : a.before - done ≡ length es = omega (arith, length-drop done (declared w.types)) in
    ap (λ k. take k es ++ declaration_of w a.what ∷ drop a.before (declared w.types)) long
    ∙ ap (λ zs. zs ++ declaration_of w a.what ∷ drop a.before (declared w.types)) (take_all (length es) es (omega arith))
    ∙ ap (λ zs. es ++ declaration_of w a.what ∷ zs) (nothing (declared w.types) a.before e)
  where
    nothing : (ys : Declarations) (n : ℕ) → n ≡ length ys → drop n ys ≡ []
    nothing ys n q = empty (drop n ys) (length-drop n ys ∙ omega arith)
      where
        empty : (zs : Declarations) → length zs ≡ 0 → zs ≡ []
        empty [] p = refl
        empty (z ∷ zs) p = absurd (omega arith)
declared_added w done (u ∷ xs) a order e =
    let front = take (u.before - done) (drop done (declared w.types)) in
    ap (λ ds. front ++ declaration_of w u.what ∷ ds) (declared_added w u.before xs a order.1 e)
    ∙ sym (append_assoc front (declaration_of w u.what ∷ declared_from w u.before xs) (declaration_of w a.what ∷ []))

pub order_added : (types : Table) (done : ℕ) (xs : List Added) (a : Added) → CameInOrder types done xs → a.before ≡ length (declared types) → CameInOrder types done (xs ++ a ∷ [])
order_added types done [] a order e = (omega (arith, order, e), omega (arith, e))
order_added types done (u ∷ xs) a order e = (order.0, order_added types u.before xs a order.1 e)

-- the table has grown, and what was added reads as before
module _ (w v : World) (more : Table) (grown : v.types ≡ w.types ++ more) where
  abbrev pub ReadsSame : Added → Type 0
  ReadsSame a = declaration_of v a.what ≡ declaration_of w a.what

  declared_grown : declared v.types ≡ declared w.types ++ declared more
  declared_grown = ap declared grown ∙ declared-append w.types more

  pub declared_on : (done : ℕ) (xs : List Added) → CameInOrder w.types done xs → All ReadsSame xs
      → declared_from v done xs ≡ declared_from w done xs ++ declared more
  declared_on done [] order same = ap (drop done) declared_grown ∙ drop-append-le done (declared w.types) (declared more) order
  declared_on done (a ∷ xs) order same =
      let k = a.before - done in
      let es = drop done (declared w.types) in
      let within = order_within w.types a.before xs order.1 in
      let far : k ≤ length es = omega (arith, length-drop done (declared w.types), within) in
      let front : take k (drop done (declared v.types)) ≡ take k es =
      ap (λ ys. take k (drop done ys)) declared_grown
      ∙ ap (take k) (drop-append-le done (declared w.types) (declared more) (omega (arith, within, order.0)))
      ∙ take-append-le k es (declared more) far in
      ap (λ zs. zs ++ declaration_of v a.what ∷ declared_from v a.before xs) front
      ∙ ap (λ d. take k es ++ d ∷ declared_from v a.before xs) (All-head ReadsSame a xs same)
      ∙ ap (λ ds. take k es ++ declaration_of w a.what ∷ ds) (declared_on a.before xs order.1 (All-tail ReadsSame a xs same))
      ∙ sym (append_assoc (take k es) (declaration_of w a.what ∷ declared_from w a.before xs) (declared more))

  pub order_on : (done : ℕ) (xs : List Added) → CameInOrder w.types done xs → CameInOrder v.types done xs
  order_on done [] order = omega (arith, order, ap length declared_grown, length-append (declared w.types) (declared more))
  order_on done (a ∷ xs) order = (order.0, order_on a.before xs order.1)
