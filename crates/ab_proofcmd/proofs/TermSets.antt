-- The terms that are given, as the world holds them while one after another is read.
use Rattle.std.specs.Prelude.{◌≡◌, ℕ, ◌<◌, ◌+◌, List, [], ◌∷◌, ◌++◌, map, take, drop, length, get_or, Some, Err, All}
use Rattle.std.proofs.Common.{inl, inr, refl, sym, ◌∙◌, ap, subst}
use Rattle.std.proofs.lemmas.List.{map-append, map_more, drop_more, take-append-drop}
use Rattle.std.proofs.lemmas.List.Elements.{All-cons, All-nil, All-append, All-weaker}
use Rattle.ab_norm.specs.ab_types.specs.Entries as table
use Rattle.ab_norm.specs.ab_types.specs.Entries.{Table}
use Rattle.ab_norm.specs.ab_types.specs.declared.ids.TypeId.{TypeId}
use Rattle.ab_norm.specs.ab_types.specs.Ids.{HoldsType, type_of}
use Rattle.ab_norm.specs.ab_types.proofs.Entries.{same_type, holds_type}
use Rattle.ab_term.specs.Types.{Ty}
use Rattle.ab_term.specs.Terms.{Read}
use Rattle.ab_norm.specs.ab_store.specs.declared.node.TermId.{TermId}
use Rattle.ab_grammar.specs.CommandTrees.{Instance}
use Rattle.ab_formulas.specs.Declarations.{Declarations}
use Rattle.ab_formulas.specs.Formulas.{HasOneTypeEach}
use Rattle.ab_logic.specs.WorldGrowth.{Grows}
use Rattle.ab_logic.specs.SequentReadings.{sequent_of, HoldsSequent}
use Rattle.ab_formulas.specs.Sequents.{Sequent, Fits, goal_names, names_of}
use Rattle.ab_logic.specs.Worlds.{IsWorld, Holds, read, declarations_of}
use Rattle.ab_logic.specs.declared.world.World.{World}
use Rattle.ab_logic.specs.declared.sequent.Sequent.{Sequent as Kept}
use Rattle.ab_logic.proofs.Growing.{grows_not, grows_on, map_same, same_sequent}
use Rattle.ab_theory.specs.Pieces.{Piece, Given, pieces, type_named}
use Rattle.ab_uses.specs.GivenReadings.{given_of}
use Rattle.ab_uses.specs.declared.given_terms.GivenTerm.{GivenTerm}
use Rattle.ab_effects.specs.ProofCommands.{reading_each}
use Rattle.ab_effects.specs.Row.{leads, Refuses}
use Rattle.ab_hypothesis.specs.ab_steps.specs.ProofEffects.{RefusedBy}
use Rattle.ab_hypothesis.specs.ab_steps.specs.declared.fault.ProofCommandFault.{ProofCommandFault}
use Rattle.ab_grammar.specs.Tree.{Tree}
use Rattle.ab_inference.specs.declared.fault.InferFault.{InferFault}
use Rattle.ab_inference.specs.declared.fault.InferFault.TheVariants as infer
use Rattle.ab_meaning.specs.Terms.{Means, MeansIn, MeansNothingIn}
use Rattle.ab_effects.specs.FormulaUses.{scope_with}
use Rattle.ab_meaning.specs.Refusals.{Refusal, unknown, type_clash, untyped}
use Rattle.ab_proofcmd.specs.GoalExpressions.{IsReadAs, fault_for}
use Rattle.ab_proofcmd.specs.GivenTerms.{HoldsGiven, values_of, values_in, beside, IsNext, AreRead}
use Rattle.ab_proofcmd.proofs.Given.{refused_by, scope_beside, values_more, fits_alone, one_beside, read_more, refuses_there}

-- A LATER WORLD holds what is given, which stands for what it stood for

pub type_later : (s t : Table) (A : TypeId) → table.IsExtendedBy s t → HoldsType s A → type_of t A ≡ type_of s A
type_later s t A (more, is) held = ap (λ l. type_of l A) is ∙ same_type s more A held

pub holds_later : (s t : Table) (A : TypeId) → table.IsExtendedBy s t → HoldsType s A → HoldsType t A
holds_later s t A (more, is) held = subst (λ l. HoldsType l A) (sym is) (holds_type s more A held)

module _ (w v : World) (grown : Grows w v) where
  given_later : (g : GivenTerm) → HoldsGiven w g → given_of v g ≡ given_of w g
  given_later g held =
      ap (λ A. record { name = g.name; type = A; value = read v g.value }) (type_later w.types v.types g.ty grown.types held.1)
      ∙ ap (λ t. record { name = g.name; type = type_of w.types g.ty; value = t }) (grown.readings g.value held.0)

  pub all_later : (gs : List GivenTerm) → All (HoldsGiven w) gs → map (given_of v) gs ≡ map (given_of w) gs
  all_later gs held = map_same (given_of v) (given_of w) (HoldsGiven w) given_later gs held

  pub still_given : (gs : List GivenTerm) → All (HoldsGiven w) gs → All (HoldsGiven v) gs
  still_given gs held = All-weaker (HoldsGiven w) (HoldsGiven v) (λ g h. (grown.ids g.value h.0, holds_later w.types v.types g.ty grown.types h.1)) gs held

-- WHAT IS READ NEXT

pub next_given : (w v : World) (s : Sequent) (ts : List Read) (ps : List Piece) (i : Instance) (name : List ℕ) (A : TypeId) (t : TermId) → Grows w v → HoldsType w.types A → name ≡ i.name
    → Some (type_of w.types A) ≡ type_named i.name ps → Means (declarations_of w) (beside s ts) i.term (type_of w.types A) (read v t) → Fits (declarations_of w) (beside s ts) (read v t) (type_of w.types A)
    → IsNext (declarations_of w) s ts ps i (given_of v (record { name = name; ty = A; value = t }))
next_given w v s ts ps i name A t grown held named is means fits =
    let same : type_of w.types A ≡ type_of v.types A = sym (type_later w.types v.types A grown.types held) in
    let D = declarations_of w in
    record {
      name = named;
      type = sym is ∙ ap Some same;
      means = subst (λ B. MeansIn D (scope_with D s (names_of ts)) i.term B (read v t)) same
          (subst (λ scope. MeansIn D scope i.term (type_of w.types A) (read v t)) (scope_beside D s ts) means);
      fits = subst (λ B. Fits D (beside s ts) (read v t) B) same fits;
    }

pub next_unread : (D : Declarations) (s : Sequent) (ts : List Read) (ps : List Piece) (i : Instance) (A : Ty) (v : World) (f : InferFault) → Some A ≡ type_named i.name ps → IsReadAs D (beside s ts) i.term A v (Err f)
    → RefusedBy (reading_each D s (names_of ts) ps (i ∷ []) (λ gs. leads [])) (fault_for f)
next_unread D s ts ps i A v (infer.Unknown x) is none = inr (A, sym is, inl (subst (λ scope. MeansNothingIn scope i.term A (unknown x)) (scope_beside D s ts) none))
next_unread D s ts ps i A v (infer.TypeClash p) is none = inr (A, sym is, inl (subst (λ scope. MeansNothingIn scope i.term A (type_clash p)) (scope_beside D s ts) none))
next_unread D s ts ps i A v (infer.Untyped p) is none = inr (A, sym is, inl (subst (λ scope. MeansNothingIn scope i.term A (untyped p)) (scope_beside D s ts) none))
next_unread D s ts ps i A v (infer.Memory m) is none = tt

-- a list, at the place of one of its items
pub parted : {X Y : Type 0} (f : X → Y) (xs : List X) (k : ℕ) (x : X) → k < length xs → x ≡ get_or xs k x → map f (take k xs) ++ f x ∷ map f (drop (k + 1) xs) ≡ map f xs
parted f xs k x l is =
    ap (λ y. map f (take k xs) ++ f y ∷ map f (drop (k + 1) xs)) is
    ∙ ap (λ ys. map f (take k xs) ++ map f ys) (sym (drop_more xs k x l))
    ∙ sym (map-append f (take k xs) (drop k xs))
    ∙ ap (map f) (take-append-drop k xs)

pub one_longer : {X Y : Type 0} (f : X → Y) (xs : List X) (k : ℕ) (x : X) → k < length xs → x ≡ get_or xs k x → map f (take (k + 1) xs) ≡ map f (take k xs) ++ f x ∷ []
one_longer f xs k x l is = map_more f xs k x l ∙ ap (λ y. map f (take k xs) ++ f y ∷ []) (sym is)

-- WHAT IS READ SO FAR, of these instances
pub record ReadSoFar (old w : World) (goal : Kept) (F : TermId) (count : ℕ) (is : List Instance) (gs : List GivenTerm) : Type 0 where
  pub grows : Grows old w
  pub declared : declarations_of w ≡ declarations_of old
  pub held : All (HoldsGiven w) gs
  pub read_in : AreRead (declarations_of old) (sequent_of old goal) [] (pieces count (read old F)) is (map (given_of w) gs)
  pub fits : All (λ (g : Given). Fits (declarations_of old) (sequent_of old goal) g.value g.type) (map (given_of w) gs)
  pub one : HasOneTypeEach (goal_names (beside (sequent_of old goal) (values_in w gs)))

pub nothing_read : (w : World) → IsWorld w → (goal : Kept) (F : TermId) (count : ℕ) (gs : List GivenTerm) → gs ≡ [] → HasOneTypeEach (goal_names (sequent_of w goal)) → ReadSoFar w w goal F count [] gs
nothing_read w world goal F count gs none one =
    subst (ReadSoFar w w goal F count []) (sym none)
    (record {
      grows = grows_not w world;
      declared = refl;
      held = All-nil (HoldsGiven w);
      read_in = refl;
      fits = All-nil (λ (g : Given). Fits (declarations_of w) (sequent_of w goal) g.value g.type);
      one = one;
    })

module _ (old w : World) (goal : Kept) (F : TermId) (count : ℕ) (is : List Instance) (gs : List GivenTerm) (held : HoldsSequent old goal) (formula : Holds old F) (far : ReadSoFar old w goal F count is gs) where
  abbrev D : Declarations
  D = declarations_of old

  abbrev S : Sequent
  S = sequent_of old goal

  abbrev ps : List Piece
  ps = pieces count (read old F)

  same_goal : sequent_of w goal ≡ S
  same_goal = same_sequent old w far.grows goal held

  same_pieces : pieces count (read w F) ≡ ps
  same_pieces = ap (pieces count) (far.grows.readings F formula)

  -- a number has one type, as the world reads it
  pub one_now : HasOneTypeEach (goal_names (beside (sequent_of w goal) (values_in w gs)))
  one_now = subst (λ s. HasOneTypeEach (goal_names (beside s (values_in w gs)))) (sym same_goal) far.one

  next_here : (v : World) (i : Instance) (g : Given) → IsNext (declarations_of w) (sequent_of w goal) (values_in w gs) (pieces count (read w F)) i g → IsNext D S (values_in w gs) ps i g
  next_here v i g next =
      subst (λ ps. IsNext D S (values_in w gs) ps i g) same_pieces
      (subst (λ s. IsNext D s (values_in w gs) (pieces count (read w F)) i g) same_goal
      (subst (λ D. IsNext D (sequent_of w goal) (values_in w gs) (pieces count (read w F)) i g) far.declared next))

  pub read_one_more : (v : World) (i : Instance) (g : GivenTerm) → Grows w v → declarations_of v ≡ declarations_of w → HoldsGiven v g
      → IsNext (declarations_of w) (sequent_of w goal) (values_in w gs) (pieces count (read w F)) i (given_of v g) → ReadSoFar old v goal F count (is ++ i ∷ []) (gs ++ g ∷ [])
  read_one_more v i g grown declared there next = record {
    grows = grows_on old w v far.grows grown;
    declared = declared ∙ far.declared;
    held = All-append (HoldsGiven v) gs (g ∷ []) (still_given w v grown gs far.held) (All-cons (HoldsGiven v) g [] there (All-nil (HoldsGiven v)));
    read_in = subst (AreRead D S [] ps (is ++ i ∷ [])) (sym now) (read_more D S ps [] is (map (given_of w) gs) i (given_of v g) far.read_in here.name here.type here.means);
    fits = subst (All (λ (x : Given). Fits D S x.value x.type)) (sym now) (All-append (λ (x : Given). Fits D S x.value x.type) (map (given_of w) gs) (given_of v g ∷ []) far.fits
        (All-cons (λ (x : Given). Fits D S x.value x.type) (given_of v g) [] (fits_alone D S (values_in w gs) (given_of v g).value (given_of v g).type here.fits) (All-nil (λ (x : Given). Fits D S x.value x.type))));
    one = subst (λ l. HasOneTypeEach (goal_names (beside S l))) (sym values_now) (one_beside D S (values_in w gs) (given_of v g).value (given_of v g).type here.fits);
  }
    where
      here : IsNext D S (values_in w gs) ps i (given_of v g)
      here = next_here v i (given_of v g) next

      now : map (given_of v) (gs ++ g ∷ []) ≡ map (given_of w) gs ++ given_of v g ∷ []
      now = map-append (given_of v) gs (g ∷ []) ∙ ap (λ l. l ++ given_of v g ∷ []) (all_later w v grown gs far.held)

      values_now : values_in v (gs ++ g ∷ []) ≡ values_in w gs ++ (given_of v g).value ∷ []
      values_now = ap values_of now ∙ values_more (map (given_of w) gs) (given_of v g)

  -- the next isn't read, for this cause
  pub unread_next : (i : Instance) (others : List Instance) (fault : ProofCommandFault)
      → RefusedBy (reading_each (declarations_of w) (sequent_of w goal) (names_of (values_in w gs)) (pieces count (read w F)) (i ∷ []) (λ hs. leads [])) fault
      → RefusedBy (reading_each D S [] ps (is ++ i ∷ others) (λ hs. leads [])) fault
  unread_next i others fault refused =
      refused_by (reading_each D S (names_of (values_in w gs)) ps (i ∷ []) (λ hs. leads [])) (reading_each D S [] ps (is ++ i ∷ others) (λ hs. leads []))
      (λ f. refuses_there D S ps [] is (map (given_of w) gs) i others (λ hs. leads []) f far.read_in) fault
      (subst (λ ps. RefusedBy (reading_each D S (names_of (values_in w gs)) ps (i ∷ []) (λ hs. leads [])) fault) same_pieces
      (subst (λ s. RefusedBy (reading_each D s (names_of (values_in w gs)) (pieces count (read w F)) (i ∷ []) (λ hs. leads [])) fault) same_goal
      (subst (λ D. RefusedBy (reading_each D (sequent_of w goal) (names_of (values_in w gs)) (pieces count (read w F)) (i ∷ []) (λ hs. leads [])) fault) far.declared refused)))
