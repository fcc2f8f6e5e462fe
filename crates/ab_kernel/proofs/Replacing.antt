-- Constants that are replaced: what is asked of them, by their ids and by what they read as.
use Rattle.std.specs.Prelude.{◌↔◌, AllPairs, Contains, Bool, IsTrue}
use Rattle.std.specs.List.{All}
use Rattle.std.proofs.Common.{◌≡◌, ◌≢◌, ℕ, ◌+◌, ◌<◌, ◌≤◌, List, [], ◌∷◌, ◌++◌, map, take, drop, length, get_or, codes, append_assoc, append-nil, refl, sym, ◌∙◌, ap, subst, arith}
use Rattle.std.proofs.lemmas.List.{get_or-map, length-map, map-append, map_more, drop_more, drop_all}
use Rattle.std.proofs.lemmas.List.Elements.{All-map, All-weaker, All-push}
use Rattle.ab_term.proofs.Lists.{Contains-map}
use Rattle.ab_term.specs.Terms as tree
use Rattle.ab_term.specs.Terms.{Read}
use Rattle.ab_term.specs.Types.{prop}
use Rattle.ab_term.specs.Typing.{Signature}
use Rattle.ab_term.specs.Names.{support, IsSupport}
use Rattle.ab_term.specs.Substitution.{instance_by_all}
use Rattle.ab_term.specs.Abstraction.{over, abstracted}
use Rattle.ab_norm.specs.ab_types.specs.Entries.{Table, signature}
use Rattle.ab_norm.specs.ab_types.specs.Ids.{type_of}
use Rattle.ab_norm.specs.ab_types.specs.Sound.{IsTable}
use Rattle.ab_norm.specs.ab_store.specs.declared.node.TermId.{TermId}
use Rattle.ab_norm.specs.ab_store.specs.declared.node.CellId.{CellId}
use Rattle.ab_norm.specs.declared.nominal.Nominal.{Nominal}
use Rattle.ab_norm.specs.Nominals.{nominal_of, HoldsNominal}
use Rattle.ab_norm.proofs.Gathered.{one_nominal}
use Rattle.ab_typing.specs.Cells as cells
use Rattle.ab_formulas.specs.Declarations.{Declarations, signature_in}
use Rattle.ab_formulas.specs.GoalTerms as fitting
use Rattle.ab_formulas.specs.Sequents.{Sequent, in_terms, formulas_of}
use Rattle.ab_logic.specs.Worlds.{IsWorld, Holds, read, variable_of, declarations_of}
use Rattle.ab_logic.specs.SequentReadings.{sequent_of}
use Rattle.ab_logic.specs.declared.world.World.{World}
use Rattle.ab_logic.specs.declared.sequent.Sequent.{Sequent as Kept}
use Rattle.ab_theory.specs.Contexts.{MayBeReplaced, AllFit, replace_constants}
use Rattle.ab_rules.specs.RuleAnswers.{replacements, HoldsReplace}
use Rattle.ab_rules.specs.declared.replaces.Replace.{Replace}
use Rattle.ab_rules.proofs.Words.{same_signature, same_variables}

-- constants of a table, and the ids that stand for them

module _ (types : Table) (ok : IsTable types) where
  abbrev f : Nominal → tree.Nominal
  f = nominal_of types

  same_at : (xs : List Nominal) (k : ℕ) (d : Nominal) (e : tree.Nominal) → k < length xs → get_or (map f xs) k e ≡ f (get_or xs k d)
  same_at xs k d e l = get_or-map f xs k d e l

  there_read : (xs : List Nominal) (a : Nominal) → All (HoldsNominal types) xs → HoldsNominal types a → Contains (map f xs) (f a) → Contains xs a
  there_read xs a hs ha (k, l, e) =
      let inside : k < length xs = omega (arith, l, length-map xs f) in
      (k, inside, one_nominal types ok (get_or xs k a) a (hs k a inside) ha (sym (same_at xs k a (f a) inside) ∙ e))

  -- each of the constants is one of those
  all_there : (xs ys : List Nominal) → All (HoldsNominal types) xs → All (HoldsNominal types) ys → All (Contains ys) xs ↔ All (Contains (map f ys)) (map f xs)
  all_there xs ys hx hy = (
    λ all. All-map (Contains (map f ys)) f xs (All-weaker (Contains ys) (λ x. Contains (map f ys) (f x)) (λ x c. Contains-map f ys x c) xs all),
    λ all k d l. there_read ys (get_or xs k d) hy (hx k d l) (subst (Contains (map f ys)) (same_at xs k d (f d) l) (all k (f d) (omega (arith, l, length-map xs f)))),
  )

  -- they differ
  all_differ : (xs : List Nominal) → All (HoldsNominal types) xs → AllPairs (λ a b. a ≢ b) xs ↔ AllPairs (λ a b. a ≢ b) (map f xs)
  all_differ xs hs = (
    λ p i j d l m e.
        let inside : j < length xs = omega (arith, m, length-map xs f) in
        let before : i < length xs = omega (arith, l, inside) in
        p i j none l inside (one_nominal types ok (get_or xs i none) (get_or xs j none) (hs i none before) (hs j none inside)
        (sym (same_at xs i none d before) ∙ e ∙ same_at xs j none d inside)),
    λ p i j d l m e.
        let before : i < length xs = omega (arith, l, m) in
        p i j (f d) l (omega (arith, m, length-map xs f)) (same_at xs i d (f d) before ∙ ap f e ∙ sym (same_at xs j d (f d) m)),
  )
    where
      none : Nominal
      none = record { number = 0; ty = record { 0 = 0 } }

  pub may_be : (F : Read) (xs there : List Nominal) → All (HoldsNominal types) xs → All (HoldsNominal types) there → IsSupport F (map f there)
      → (AllPairs (λ a b. a ≢ b) xs × All (Contains there) xs) ↔ MayBeReplaced F (map f xs)
  may_be F xs there hx ht is = (
    λ p. record {
      differ = (all_differ xs hx).0 p.0;
      there = All-weaker (Contains (map f there)) (Contains (support F)) (λ a. (is.same a).0) (map f xs) ((all_there xs there hx ht).0 p.1);
    },
    λ m. (
      (all_differ xs hx).1 m.differ,
      (all_there xs there hx ht).1 (All-weaker (Contains (support F)) (Contains (map f there)) (λ a. (is.same a).1) (map f xs) m.there),
    ),
  )

-- what a list of replacements reads as

module _ (w : World) where
  pub names_read : (rs : List Replace) → map (λ (r : tree.Nominal × Read). r.0) (replacements w rs) ≡ map (nominal_of w.types) (map (λ (r : Replace). r.from) rs)
  names_read [] = refl
  names_read (r ∷ rs) = ap (λ l. nominal_of w.types r.from ∷ l) (names_read rs)

  pub terms_read : (rs : List Replace) → map (λ (r : tree.Nominal × Read). r.1) (replacements w rs) ≡ map (read w) (map (λ (r : Replace). r.to) rs)
  terms_read [] = refl
  terms_read (r ∷ rs) = ap (λ l. read w r.to ∷ l) (terms_read rs)

  pub names_held : (rs : List Replace) → All (HoldsReplace w) rs → All (HoldsNominal w.types) (map (λ (r : Replace). r.from) rs)
  names_held rs all =
      All-map (HoldsNominal w.types) (λ (r : Replace). r.from) rs (All-weaker (HoldsReplace w) (λ (r : Replace). HoldsNominal w.types r.from) (λ r h. h.0) rs all)

  pub terms_held : (rs : List Replace) → All (HoldsReplace w) rs → All (Holds w) (map (λ (r : Replace). r.to) rs)
  terms_held rs all = All-map (Holds w) (λ (r : Replace). r.to) rs (All-weaker (HoldsReplace w) (λ (r : Replace). Holds w r.to) (λ r h. h.1) rs all)

  -- the formula with the terms for the constants
  pub replaced_by : (rs : List Replace) (F : Read) (names : List tree.Nominal) (terms : List Read) → names ≡ map (nominal_of w.types) (map (λ (r : Replace). r.from) rs)
      → terms ≡ map (read w) (map (λ (r : Replace). r.to) rs)
      → instance_by_all (abstracted (codes "x") (over names prop) (map tree.nominal names) F) terms ≡ replace_constants (replacements w rs) F
  replaced_by rs F names terms e t =
      ap (λ ns. instance_by_all (abstracted (codes "x") (over ns prop) (map tree.nominal ns) F) terms) (e ∙ sym (names_read rs))
      ∙ ap
      (λ ts. instance_by_all (abstracted (codes "x") (over (map (λ (r : tree.Nominal × Read). r.0) (replacements w rs)) prop) (map tree.nominal (map (λ (r : tree.Nominal × Read). r.0) (replacements w rs))) F) ts)
      (t ∙ sym (terms_read rs))

-- they may be replaced, by their ids

module _ (w : World) (ok : IsTable w.types) (F : Read) (rs : List Replace) (held : All (HoldsReplace w) rs) (ids : List Nominal) (are : ids ≡ map (λ (r : Replace). r.from) rs) where
  pub told_differ : MayBeReplaced F (map (λ (r : tree.Nominal × Read). r.0) (replacements w rs)) → AllPairs (λ a b. a ≢ b) ids
  told_differ may =
      subst (AllPairs (λ a b. a ≢ b)) (sym are)
      ((all_differ w.types ok (map (λ (r : Replace). r.from) rs) (names_held w rs held)).1 (subst (AllPairs (λ a b. a ≢ b)) (names_read w rs) may.differ))

  pub told_may : (there : List Nominal) → All (HoldsNominal w.types) there → IsSupport F (map (nominal_of w.types) there)
      → (AllPairs (λ a b. a ≢ b) ids × All (Contains there) ids) ↔ MayBeReplaced F (map (λ (r : tree.Nominal × Read). r.0) (replacements w rs))
  told_may there ht is =
      subst (λ ns. (AllPairs (λ a b. a ≢ b) ns × All (Contains there) ns) ↔ MayBeReplaced F (map (λ (r : tree.Nominal × Read). r.0) (replacements w rs))) (sym are)
      (subst (λ ms. (AllPairs (λ a b. a ≢ b) (map (λ (r : Replace). r.from) rs) × All (Contains there) (map (λ (r : Replace). r.from) rs)) ↔ MayBeReplaced F ms) (sym (names_read w rs))
      (may_be w.types ok F (map (λ (r : Replace). r.from) rs) there (names_held w rs held) ht is))

-- what holds in the words of the call holds in those of the sequent, beside terms that were put already
pub beside_words : (w : World) → IsWorld w → (s : Kept) (xs : List CellId) (ids : List TermId) (given : List Read) → xs ≡ s.variables → map (read w) ids ≡ formulas_of (sequent_of w s) ++ given
    → (P : Signature → List (tree.Variable ℕ) → List Read → Type 0)
    → P (signature w.types) (map (cells.variable_of w.types w.store) xs) (map (read w) ids)
    → P (signature_in (declarations_of w)) (map in_terms (map (variable_of w) s.variables)) (formulas_of (sequent_of w s) ++ given)
beside_words w is s xs ids given vars terms P p =
    subst (λ sg. P sg (map in_terms (map (variable_of w) s.variables)) (formulas_of (sequent_of w s) ++ given)) (same_signature w is)
    (subst (λ l. P (signature w.types) l (formulas_of (sequent_of w s) ++ given)) (ap (map (cells.variable_of w.types w.store)) vars ∙ same_variables w s.variables)
    (subst (P (signature w.types) (map (cells.variable_of w.types w.store) xs)) terms p))

-- THE TERMS FIT SO FAR: those before the place are among what stands before, and the others are to fit beside them

abbrev pub given : World → List Replace → ℕ → List Read
given w rs i = map (λ (r : Replace). read w r.to) (take i rs)

pub record FitSoFar (w : World) (s : Kept) (rs : List Replace) (i : ℕ) (before : List TermId) : Type 0 where
  pub held : All (Holds w) before
  pub reads : map (read w) before ≡ formulas_of (sequent_of w s) ++ given w rs i
  pub rest : AllFit (declarations_of w) (sequent_of w s) [] (replacements w rs) ↔ AllFit (declarations_of w) (sequent_of w s) (given w rs i) (replacements w (drop i rs))

module _ (w : World) (is : IsWorld w) (s : Kept) (rs : List Replace) where
  abbrev D : Declarations
  D = declarations_of w

  abbrev S : Sequent
  S = sequent_of w s

  pub fit_none : (ids : List TermId) → All (Holds w) ids → map (read w) ids ≡ formulas_of S → FitSoFar w s rs 0 ids
  fit_none ids held reads = record { held = held; reads = reads ∙ sym (append-nil (formulas_of S)); rest = (λ all. all, λ all. all) }

  module _ (i : ℕ) (before : List TermId) (so : FitSoFar w s rs i before) where
    pub fit_whole : length rs ≤ i → AllFit D S [] (replacements w rs)
    fit_whole l = so.rest.1 (subst (λ qs. AllFit D S (given w rs i) (replacements w qs)) (sym (drop_all i rs l)) tt)

    module _ (r : Replace) (inside : i < length rs) (here : get_or rs i r ≡ r) where
      left : drop i rs ≡ r ∷ drop (i + 1) rs
      left = drop_more rs i r inside ∙ ap (λ x. x ∷ drop (i + 1) rs) here

      next : AllFit D S [] (replacements w rs) ↔ AllFit D S (given w rs i) (replacements w (r ∷ drop (i + 1) rs))
      next = subst (λ qs. AllFit D S [] (replacements w rs) ↔ AllFit D S (given w rs i) (replacements w qs)) left so.rest

      words : (xs : List CellId) (b : Bool) → xs ≡ s.variables
          → IsTrue b ↔ fitting.Fits (signature w.types) (map (cells.variable_of w.types w.store) xs) (map (read w) before) (read w r.to) (type_of w.types r.from.ty)
          → IsTrue b ↔ fitting.Fits (signature_in D) (map in_terms S.variables) (formulas_of S ++ given w rs i) (read w r.to) (type_of w.types r.from.ty)
      words xs b vars told =
          beside_words w is s xs before (given w rs i) vars so.reads (λ sg ys Fs. IsTrue b ↔ fitting.Fits sg ys Fs (read w r.to) (type_of w.types r.from.ty)) told

      module _ (xs : List CellId) (b : Bool) (vars : xs ≡ s.variables)
          (told : IsTrue b ↔ fitting.Fits (signature w.types) (map (cells.variable_of w.types w.store) xs) (map (read w) before) (read w r.to) (type_of w.types r.from.ty)) where
        pub fits_not : (IsTrue b → ⊥) → AllFit D S [] (replacements w rs) → ⊥
        fits_not none all = none ((words xs b vars told).1 (next.0 all).0)

        pub fit_more : (more : List TermId) → more ≡ before ++ r.to ∷ [] → Holds w r.to → IsTrue b → FitSoFar w s rs (i + 1) more
        fit_more more pushed holds t =
            let f = λ (q : Replace). read w q.to in
            let longer : given w rs (i + 1) ≡ given w rs i ++ read w r.to ∷ [] = map_more f rs i r inside ∙ ap (λ q. given w rs i ++ f q ∷ []) here in
            record {
              held = subst (All (Holds w)) (sym pushed) (All-push (Holds w) before r.to so.held holds);
              reads =
                  ap (map (read w)) pushed
                  ∙ map-append (read w) before (r.to ∷ [])
                  ∙ ap (λ l. l ++ read w r.to ∷ []) so.reads
                  ∙ append_assoc (formulas_of S) (given w rs i) (read w r.to ∷ [])
                  ∙ ap (λ l. formulas_of S ++ l) (sym longer);
              rest = (
                λ all. subst (λ l. AllFit D S l (replacements w (drop (i + 1) rs))) (sym longer) (next.0 all).1,
                λ all. next.1 ((words xs b vars told).0 t, subst (λ l. AllFit D S l (replacements w (drop (i + 1) rs))) longer all),
              );
            }

-- what was asked in a later world

module _ (w v : World) (rs : List Replace) (same : replacements v rs ≡ replacements w rs) (b : Bool) where
  pub may_before : (F G : Read) → F ≡ G → IsTrue b ↔ MayBeReplaced F (map (λ (r : tree.Nominal × Read). r.0) (replacements v rs)) → IsTrue b ↔ MayBeReplaced G (map (λ (r : tree.Nominal × Read). r.0) (replacements w rs))
  may_before F G e told =
      subst (λ H. IsTrue b ↔ MayBeReplaced H (map (λ (r : tree.Nominal × Read). r.0) (replacements w rs))) e
      (subst (λ (qs : List (tree.Nominal × Read)). IsTrue b ↔ MayBeReplaced F (map (λ (r : tree.Nominal × Read). r.0) qs)) same told)

  pub fit_before : (s : Kept) → declarations_of v ≡ declarations_of w → sequent_of v s ≡ sequent_of w s
      → IsTrue b ↔ AllFit (declarations_of v) (sequent_of v s) [] (replacements v rs) → IsTrue b ↔ AllFit (declarations_of w) (sequent_of w s) [] (replacements w rs)
  fit_before s declared goal told =
      subst (λ E. IsTrue b ↔ AllFit E (sequent_of w s) [] (replacements w rs)) declared
      (subst (λ g. IsTrue b ↔ AllFit (declarations_of v) g [] (replacements w rs)) goal
      (subst (λ (qs : List (tree.Nominal × Read)). IsTrue b ↔ AllFit (declarations_of v) (sequent_of v s) [] qs) same told))
