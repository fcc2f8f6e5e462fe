-- A session is sound in the beginning, and behind each command that goes forward.
use Rattle.std.specs.Prelude.{codes, All}
use Rattle.std.proofs.Common.{◌≡◌, ℕ, List, [], ◌∷◌, ◌++◌, map, Bool, Option, Some, None, refl, sym, ◌∙◌, ap, subst, append_assoc, append-nil}
use Rattle.std.proofs.lemmas.List.Elements.{All-nil, All-cons, All-head, All-tail}
use Rattle.ab_term.specs.Types.{Ty, o, olist, prop, arrows}
use Rattle.ab_term.specs.Typing.{typed_spine, take_none, take_term}
use Rattle.ab_term.specs.Constants.{Constant, names}
use Rattle.ab_types.specs.Entries.{first_entries}
use Rattle.ab_grammar.specs.CommandTrees.{Command, Defined, Clause}
use Rattle.ab_unifiers.specs.Clauses as cases
use Rattle.ab_unifiers.specs.Clauses.{IsClause}
use Rattle.ab_unifiers.specs.Member.{HasMember, member_first, member_later, member_clauses}
use Rattle.ab_unifiers.proofs.Membership.{member_defined}
use Rattle.ab_term.specs.Terms.{Read}
use Rattle.ab_formulas.specs.Declarations.{Declarations, Block, a_kind, a_constant, a_block, a_program_clause, a_theorem, signature_in, block_in, theorem_in, IsDefining, HaveDefinitions, HaveSentences}
use Rattle.ab_formulas.specs.Programs.{program_in, IsProgramClause, HavePrograms}
use Rattle.ab_formulas.specs.Formulas.{IsSentence}
use Rattle.ab_logic.specs.Worlds.{declared, defined, member_block, first_declarations}
use Rattle.ab_formulas.proofs.Declaring.{sentences_behind, sentences_added, sentences_defined, definitions_behind, definitions_added, definitions_defined, extends_not, extends_on, more_constants, still_sentence}
use Rattle.ab_logic.proofs.Declaring.{theorem-declared, block-declared}
use Rattle.ab_meaning.specs.Terms.{kinds_in}
use Rattle.ab_states.specs.ab_specification.specs.ab_declare.specs.DeclarationCommands.{Declares, new_kinds, new_constants, new_predicates}
use Rattle.ab_states.specs.ab_specification.specs.ab_declare.specs.DefinitionCommands.{Defines, predicate_of, block_with}
use Rattle.ab_infer.specs.Lists.{HasLists}
use Rattle.ab_grammar.specs.FileTrees.{Item}
use Rattle.ab_states.specs.ab_specification.specs.ItemDeclarations.{ItemDeclares, new_kinds as item_kinds, new_constants as item_constants, new_clause, no_declaration}
use Rattle.ab_states.specs.ab_specification.specs.FileDeclarations.{PlacedItem, AllDeclare, no_item, one_more}
use Rattle.ab_states.specs.State.{Attempt, State, Entry, empty}
use Rattle.ab_states.specs.Reply.{Reply}
use Rattle.ab_states.specs.ForwardEffects as effect
use Rattle.ab_states.specs.ForwardEffects.{GoesForward}
use Rattle.ab_determinism.specs.Sound.{AreSound, ProvesSentence, IsSound}
use Rattle.ab_determinism.proofs.Defining.{all_define}
use Rattle.ab_determinism.proofs.Programs.{still_clause, programs_behind, program_stays, read_clause}
use Rattle.ab_determinism.proofs.Statements.{stated_sentence}

-- kinds and constants define nothing and prove nothing, and neither do predicates without their block

no_kind : (xs : List (List ℕ)) (p : List ℕ) → (block_in (map a_kind xs) p ≡ None) × (theorem_in (map a_kind xs) p ≡ None)
no_kind [] p = (refl, refl)
no_kind (x ∷ xs) p = no_kind xs p

no_constant : (A : Ty) (xs : List (List ℕ)) (p : List ℕ) → (block_in (map (λ x. a_constant x A) xs) p ≡ None) × (theorem_in (map (λ x. a_constant x A) xs) p ≡ None)
no_constant A [] p = (refl, refl)
no_constant A (x ∷ xs) p = no_constant A xs p

no_predicate : (ps : List Constant) (p : List ℕ) → (block_in (map predicate_of ps) p ≡ None) × (theorem_in (map predicate_of ps) p ≡ None)
no_predicate [] p = (refl, refl)
no_predicate (d ∷ ps) p = no_predicate ps p

-- nor do they add a clause to the program

kinds_alone : (xs : List (List ℕ)) → program_in (map a_kind xs) ≡ []
kinds_alone [] = refl
kinds_alone (x ∷ xs) = kinds_alone xs

constants_alone : (A : Ty) (xs : List (List ℕ)) → program_in (map (λ x. a_constant x A) xs) ≡ []
constants_alone A [] = refl
constants_alone A (x ∷ xs) = constants_alone A xs

predicates_alone : (ps : List Constant) → program_in (map predicate_of ps) ≡ []
predicates_alone [] = refl
predicates_alone (d ∷ ps) = predicates_alone ps

-- what is declared behind them keeps what begins

pub has_member : (D : Declarations) → AreSound D → HasMember (signature_in D)
has_member D sound = record {
  member = more_constants first_declarations D sound.first (codes "member") (arrows (o ∷ olist ∷ []) prop) refl;
  cons = more_constants first_declarations D sound.first (codes "::") (arrows (o ∷ olist ∷ []) olist) refl;
}

pub has_lists : (D : Declarations) → AreSound D → HasLists D
has_lists D sound = (
  more_constants first_declarations D sound.first (codes "::") (arrows (o ∷ olist ∷ []) olist) refl,
  more_constants first_declarations D sound.first (codes "nil") olist refl,
)

module _ (D : Declarations) (sound : AreSound D) where
  sound_behind : (E : Declarations) → HaveDefinitions (D ++ E) → HavePrograms (D ++ E) → HaveSentences (D ++ E) → AreSound (D ++ E)
  sound_behind E definitions programs sentences =
      record { first = extends_on first_declarations D (D ++ E) sound.first (E, refl); definitions = definitions; programs = programs; sentences = sentences }

  clauses_told : (E : Declarations) → HavePrograms (D ++ E) → ((p : List ℕ) → (block_in E p ≡ None) × (theorem_in E p ≡ None)) → AreSound (D ++ E)
  clauses_told E programs none =
      sound_behind E (definitions_behind D E sound.definitions (λ p b e. let clash : None ≡ Some b = sym (none p).0 ∙ e in absurd (cc))) programs
      (sentences_behind D E sound.sentences (λ p F e. let clash : None ≡ Some F = sym (none p).1 ∙ e in absurd (cc)))

  nothing_told : (E : Declarations) → program_in E ≡ [] → ((p : List ℕ) → (block_in E p ≡ None) × (theorem_in E p ≡ None)) → AreSound (D ++ E)
  nothing_told E alone none = clauses_told E (program_stays D E sound.programs alone) none

  -- a definition's predicates, and its block behind them
  sound_defined : (inductive : Bool) (ds : List Defined) (cs : List Clause) (more : Declarations) → Defines D inductive ds cs more → AreSound (D ++ more)
  sound_defined inductive ds cs more d =
      let ps = d.predicates in
      let E : Declarations = map predicate_of ps in
      let B : Block = defined (block_with inductive ps d.clauses) in
      let before : AreSound (D ++ E) = nothing_told E (predicates_alone ps) (no_predicate ps) in
      let whole : HaveDefinitions ((D ++ E) ++ a_block B ∷ []) =
      let lists = has_lists (D ++ E) before in
      definitions_defined (D ++ E) B before.definitions (all_define (names ps) (kinds_in D) (signature_in (D ++ E)) lists.0 lists.1 cs d.clauses d.meant d.right) in
      let same : (D ++ E) ++ a_block B ∷ [] ≡ D ++ more = append_assoc D E (a_block B ∷ []) ∙ ap (λ F. D ++ F) (sym d.is) in
      sound_behind more (subst HaveDefinitions same whole) (subst HavePrograms same (program_stays (D ++ E) (a_block B ∷ []) before.programs refl)) (subst HaveSentences same (sentences_defined (D ++ E) B before.sentences))

  sound_declared : {c : Command} {more : Declarations} → Declares D c more → AreSound (D ++ more)
  sound_declared (new_kinds {xs = xs} e) = nothing_told (map a_kind xs) (kinds_alone xs) (no_kind xs)
  sound_declared (new_constants {xs = xs} {A = A} e t d) = nothing_told (map (λ x. a_constant x A) xs) (constants_alone A xs) (no_constant A xs)
  sound_declared {more = more} (new_predicates {inductive = i} {ds = ds} {cs = cs} d) = sound_defined i ds cs more d

  sound_theorem : (n : List ℕ) (F : Read) (js : List ℕ) → IsSentence (signature_in D) F → AreSound (D ++ a_theorem n F js ∷ [])
  sound_theorem n F js is = sound_behind (a_theorem n F js ∷ []) (definitions_added D n F js sound.definitions) (program_stays D (a_theorem n F js ∷ []) sound.programs refl) (sentences_added D n F js sound.sentences is)

  -- a formula that is being proved stays a sentence
  still_proves : (E : Declarations) (a : Option Attempt) → ProvesSentence D a → ProvesSentence (D ++ E) a
  still_proves E None is = tt
  still_proves E (Some a) is = still_sentence D (D ++ E) (E, refl) a.formula is

-- so with what the files of a specification declare
sound_item : (D : Declarations) {i : Item} {more : Declarations} → ItemDeclares D i more → AreSound D → AreSound (D ++ more)
sound_item D (item_kinds d) sound = sound_declared D sound d
sound_item D (item_constants d) sound = sound_declared D sound d
sound_item D (new_clause {c = c} {k = k} m) sound =
    let E : Declarations = a_program_clause k ∷ [] in
    let Then : cases.Clause (List ℕ) → Type 0 = IsProgramClause (signature_in (D ++ E)) in
    let own = still_clause D E k (read_clause D (has_lists D sound) c k m) in
    clauses_told D sound E (programs_behind D E sound.programs (All-cons Then k [] own (All-nil Then))) (λ p. (refl, refl))
sound_item D no_declaration sound = subst AreSound (sym (append-nil D)) sound

sound_items : (D : Declarations) {is : List PlacedItem} {more : Declarations} → AllDeclare D is more → AreSound D → AreSound (D ++ more)
sound_items D no_item sound = subst AreSound (sym (append-nil D)) sound
sound_items D (one_more {more = more} {rest = rest} d r) sound = subst AreSound (append_assoc D more rest) (sound_items (D ++ more) r (sound_item D d sound))

-- BEHIND EACH EFFECT
pub sound_forward : {s t : State} {e : Entry} {r : Reply} → GoesForward s e r t → IsSound s → IsSound t
sound_forward (effect.unread c f) sound = sound
sound_forward (effect.declined c r k d) sound = sound
sound_forward {s = s} (effect.declared c more k d) sound = record { declarations = sound_declared s.declarations sound.declarations d; attempt = still_proves s.declarations sound.declarations more s.attempt sound.attempt }
sound_forward {s = s} (effect.specified x files more k n d) sound = record { declarations = sound_items s.declarations d sound.declarations; attempt = still_proves s.declarations sound.declarations more s.attempt sound.attempt }
sound_forward (effect.item_declined x files v k n d) sound = sound
sound_forward (effect.specified_twice x k n) sound = sound
sound_forward {s = s} (effect.stated x e F k n d) sound = record { declarations = sound.declarations; attempt = stated_sentence s.declarations (has_lists s.declarations sound.declarations) e F d }
sound_forward (effect.showed x F k e) sound = sound
sound_forward (effect.ended k) sound = sound
sound_forward (effect.switched on k) sound = record { declarations = sound.declarations; attempt = sound.attempt }
sound_forward (effect.given_up k) sound = record { declarations = sound.declarations; attempt = tt }
sound_forward (effect.denied l c a q gs v f d) sound = sound
sound_forward {s = s} (effect.led l c a q gs ps h hs f m e) sound = record { declarations = sound.declarations; attempt = subst (ProvesSentence s.declarations) f.attempt sound.attempt }
sound_forward {s = s} (effect.proved l c a q gs ps f m e) sound =
    record { declarations = sound_theorem s.declarations sound.declarations a.name a.formula (effect.assumed_after s a q c) (subst (ProvesSentence s.declarations) f.attempt sound.attempt); attempt = tt }

-- IN THE BEGINNING `member` is defined
first_defined : HaveDefinitions first_declarations
first_defined =
    let D : Declarations = declared first_entries in
    let Defining = IsDefining (signature_in D) in
    let clauses : All (IsClause (signature_in D)) member_clauses = member_defined (signature_in D) (record { member = refl; cons = refl }) in
    definitions_defined D member_block (λ p b e. let clash : None ≡ Some b = sym (block-declared first_entries p) ∙ e in absurd (cc))
    (All-cons Defining member_first (member_later ∷ [])
    (record {
      clause = All-head (IsClause (signature_in D)) member_first (member_later ∷ []) clauses;
      body = record { typed = typed_spine refl take_none; stands = (tt, tt) };
    })
    (All-cons Defining member_later []
    (record {
      clause = All-head (IsClause (signature_in D)) member_later [] (All-tail (IsClause (signature_in D)) member_first (member_later ∷ []) clauses);
      body = record { typed = typed_spine refl (take_term (typed_spine refl take_none) (take_term (typed_spine refl take_none) take_none)); stands = (tt, (tt, (tt, tt))) };
    })
    (All-nil Defining)))

first_sentences : HaveSentences first_declarations
first_sentences = sentences_defined (declared first_entries) member_block (λ n F e. let clash : None ≡ Some F = sym (theorem-declared first_entries n) ∙ e in absurd (cc))

pub sound_beginning : IsSound empty
sound_beginning = record { declarations = record { first = extends_not first_declarations; definitions = first_defined; programs = All-nil (IsProgramClause (signature_in first_declarations)); sentences = first_sentences }; attempt = tt }
