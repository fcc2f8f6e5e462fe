-- WHAT GOES THROUGH SUBSTITUTION: of a term with others for the names of some binders it makes what it makes of the term, with what it makes of the others.
use Rattle.std.proofs.Common.{◌≡◌, ℕ, zero, suc, List, [], ◌∷◌, map, length, codes, Bool, true, false, Option, Some, None, refl, sym, ◌∙◌, ap, subst}
use Rattle.ab_term.specs.Types.{Ty, prop, o}
use Rattle.ab_term.specs.Logical.{Logical}
use Rattle.ab_term.specs.Terms.{Nominal, Head, constant, logical, Read}
use Rattle.ab_term.specs.Typing.{Signature, HasType}
use Rattle.ab_term.specs.Names.{rename}
use Rattle.ab_term.specs.Substitution.{shift, substitute}
use Rattle.ab_term.specs.Translation.{forget}
use Rattle.ab_term.specs.Variables.{image_by}
use Rattle.ab_term.proofs.Closed.{closed_typed}
use Rattle.ab_term.proofs.Images.{IsTypedMap, image_by-substitute, image_by_typed}
use Rattle.ab_term.proofs.Preservation.{here}
use Rattle.ab_term.proofs.Renamings.{rename-substitute, rename_typed}
use Rattle.ab_term.proofs.Standing.{Has}
use Rattle.ab_term.proofs.Translations.{translate-substitute, translate_typed}
use Rattle.ab_term.proofs.Expansions.{expansion_typed}
use Rattle.ab_term.specs.Terms.{nominal}
use Rattle.ab_unifiers.specs.Replacements.{Cell}
use Rattle.ab_coverage.proofs.Cases.{OptionsHave, closed_has, blank_has}
use Rattle.ab_coverage.proofs.Clausal.{Free, total, drops_total, anything, blank, total_blank, guess_shape, guess_typed}
use Rattle.ab_coverage.proofs.Filling.{closing, closed_with, dropped_with, drops, all_unmoved, AllTyped, TypedOne, closed_with_typed}
use Rattle.ab_coverage.proofs.IndexedGoals.{for_some, lower}
use Rattle.ab_coverage.proofs.IndexedInstances.{IsGuess}
use Rattle.ab_coverage.proofs.IndexedSpecClauses.{put_or, context_of}
use Rattle.ab_pattern_matching.specs.Raising.{Bare}
use Rattle.ab_search_trees.specs.Lifting.{Guess}
use Rattle.ab_search_clauses.proofs.PutFirst.{dress, dressed}

pub record GoesThrough (sg : Signature) (O : Bare → Bare) : Type 0 where
  pub keeps : (G : List Ty) (A : Ty) (t : Bare) → HasType sg G t A → HasType sg G (O t) A
  pub put : (G : List Ty) (A D : Ty) (t u : Bare) → HasType sg [] u A → HasType sg (A ∷ G) t D → O (substitute A u zero t) ≡ substitute A (O u) zero (O t)
  pub wrap : (A : Ty) (t : Bare) → O (for_some A tt t) ≡ for_some A tt (O t)

pub image_through : (sg : Signature) (f : Guess) → IsTypedMap sg f → GoesThrough sg (image_by f)
image_through sg f typed = record {
  keeps = λ G A t d. image_by_typed sg ℕ (Unit {0}) f typed d;
  put = λ G A D t u d e. image_by-substitute sg ℕ (Unit {0}) f typed here (closed_typed sg G d) e;
  wrap = λ A t. refl;
}

pub rename_through : (sg : Signature) (m : Nominal → Nominal) → ((a : Nominal) → (m a).type ≡ a.type) → GoesThrough sg (rename m)
rename_through sg m keeps = record {
  keeps = λ G A t d. rename_typed sg m keeps d;
  put = λ G A D t u d e. rename-substitute m A u zero t;
  wrap = λ A t. refl;
}

pub then_through : (sg : Signature) (O P : Bare → Bare) → GoesThrough sg O → GoesThrough sg P → GoesThrough sg (λ t. P (O t))
then_through sg O P a b = record {
  keeps = λ G A t d. b.keeps G A (O t) (a.keeps G A t d);
  put = λ G A D t u d e. ap P (a.put G A D t u d e) ∙ b.put G A D (O t) (O u) (a.keeps [] A u d) (a.keeps (A ∷ G) D t e);
  wrap = λ A t. ap P (a.wrap A t) ∙ b.wrap A (O t);
}

pub dress_typed : (sg : Signature) {G : List Ty} {A : Ty} {t : Bare} → HasType sg G t A → HasType sg G (dress t) A
dress_typed sg d = translate_typed sg (λ v. v) (λ u. codes "x") d

module _ (sg : Signature) (O : Bare → Bare) (through : GoesThrough sg O) where
  abbrev pub OneMet : Option Read → Option Read → Type 0
  OneMet None None = Unit {0}
  OneMet (Some v) (Some w) = O (forget v) ≡ forget w
  OneMet _ _ = ⊥

  abbrev pub AreMet : List (Option Read) → List (Option Read) → Type 0
  AreMet [] [] = Unit {0}
  AreMet (v ∷ vs) (w ∷ ws) = OneMet v w × AreMet vs ws
  AreMet _ _ = ⊥

  one_through : {D : Ty} {G : List Ty} (b : Cell (List ℕ)) (v w : Option Read) (t u : Read) → TypedOne sg D b v → OneMet v w → HasType sg (b.type ∷ G) t D → O (forget t) ≡ forget u → O (forget (put_or closing b v t)) ≡ forget (put_or closing b w u)
  one_through b None None t u d m e h = through.wrap b.type (forget t) ∙ ap (for_some b.type tt) h
  one_through b None (Some w) t u d m e h = absurd m
  one_through b (Some v) None t u d m e h = absurd m
  one_through {D = D} {G = G} b (Some v) (Some w) t u d m e h =
      ap O (translate-substitute (λ v. v) (λ h. tt) b.type v zero t)
      ∙ through.put G b.type D (forget t) (forget v) (translate_typed sg (λ v. v) (λ h. tt) d) (translate_typed sg (λ v. v) (λ h. tt) e)
      ∙ ap (λ z. substitute b.type z zero (O (forget t))) m
      ∙ ap (substitute b.type (forget w) zero) h
      ∙ sym (translate-substitute (λ v. v) (λ h. tt) b.type w zero u)

  -- A BODY, past hints
  pub closed_through : (D : Ty) (G : List Ty) (bs : List (Cell (List ℕ))) (vs ws : List (Option Read)) (t u : Read) → AllTyped sg D bs vs → AreMet vs ws → HasType sg (context_of bs G) t D → O (forget t) ≡ forget u
      → O (forget (closed_with bs vs t)) ≡ forget (closed_with bs ws u)
  closed_through D G [] [] [] t u d m e h = h
  closed_through D G [] [] (w ∷ ws) t u d m e h = absurd m
  closed_through D G [] (v ∷ vs) ws t u d m e h = absurd d
  closed_through D G (b ∷ bs) [] ws t u d m e h = absurd d
  closed_through D G (b ∷ bs) (v ∷ vs) [] t u d m e h = absurd m
  closed_through D G (b ∷ bs) (v ∷ vs) (w ∷ ws) t u d m e h =
      one_through b v w (closed_with bs vs t) (closed_with bs ws u) d.0 m.0 (closed_with_typed sg {G = b.type ∷ G} bs vs t d.1 e) (closed_through D (b.type ∷ G) bs vs ws t u d.1 m.1 e h)

  -- what it makes of something for a name that doesn't stand there
  abbrev moved : Cell (List ℕ) → Read
  moved b = dress (O (forget (anything b)))

  anything_typed : (b : Cell (List ℕ)) → HasType sg [] (anything b) b.type
  anything_typed b = expansion_typed sg b.hint b.type [] (nominal (record { number = 0; type = b.type })) refl

  moved_typed : (b : Cell (List ℕ)) → HasType sg [] (moved b) b.type
  moved_typed b = dress_typed sg (through.keeps [] b.type (forget (anything b)) (translate_typed sg (λ v. v) (λ h. tt) (anything_typed b)))

  total_met : (bs : List (Cell (List ℕ))) (vs ws : List (Option Read)) → AreMet vs ws → AreMet (total anything bs vs) (total moved bs ws)
  total_met [] vs ws e = tt
  total_met (b ∷ bs) [] [] e = tt
  total_met (b ∷ bs) [] (w ∷ ws) e = absurd e
  total_met (b ∷ bs) (v ∷ vs) [] e = absurd e
  total_met (b ∷ bs) (Some v ∷ vs) (Some w ∷ ws) e = (e.0, total_met bs vs ws e.1)
  total_met (b ∷ bs) (None ∷ vs) (None ∷ ws) e = (sym (dressed (O (forget (anything b)))), total_met bs vs ws e.1)
  total_met (b ∷ bs) (Some v ∷ vs) (None ∷ ws) e = absurd e.0
  total_met (b ∷ bs) (None ∷ vs) (Some w ∷ ws) e = absurd e.0

-- something typed for each name
pub total_typed : (sg : Signature) (j : Cell (List ℕ) → Read) → ((b : Cell (List ℕ)) → HasType sg [] (j b) b.type) → (D : Ty) (fs : List Bool) (bs : List (Cell (List ℕ))) (vs : List (Option Read)) → IsGuess sg fs bs vs → AllTyped sg D bs (total j bs vs)
total_typed sg j jt D [] [] [] g = tt
total_typed sg j jt D (true ∷ fs) (b ∷ bs) (None ∷ vs) g = (jt b, total_typed sg j jt D fs bs vs g)
total_typed sg j jt D (false ∷ fs) (b ∷ bs) (Some u ∷ vs) g = (g.0, total_typed sg j jt D fs bs vs g.1)
total_typed sg j jt D fs bs vs g = absurd g

-- AN ATOM, past hints
pub atoms_through : (sg : Signature) (O : Bare → Bare) (through : GoesThrough sg O) (fs : List Bool) (bs : List (Cell (List ℕ))) (vs ws : List (Option Read)) → IsGuess sg fs bs vs → IsGuess sg fs bs ws → AreMet sg O through vs ws
    → (t u : Read) → HasType sg (context_of bs []) t o → Free fs bs t → Free fs bs u → O (forget t) ≡ forget u → O (forget (dropped_with bs vs t)) ≡ forget (dropped_with bs ws u)
atoms_through sg O through fs bs vs ws g h m t u d e f k =
    let before = total_typed sg anything (anything_typed sg O through) o fs bs vs g in
    let after = total_typed sg (moved sg O through) (moved_typed sg O through) o fs bs ws h in
    ap (λ z. O (forget z)) (drops bs vs (total anything bs vs) t (drops_total anything fs bs vs t (guess_shape sg fs bs vs g) e) (all_unmoved sg o bs (total anything bs vs) before))
    ∙ closed_through sg O through o [] bs (total anything bs vs) (total (moved sg O through) bs ws) t u before (total_met sg O through bs vs ws m) d k
    ∙ ap forget (sym (drops bs ws (total (moved sg O through) bs ws) u (drops_total (moved sg O through) fs bs ws u (guess_shape sg fs bs ws h) f) (all_unmoved sg o bs (total (moved sg O through) bs ws) after)))

-- an atom is typed, and holds what the term and the others hold
module _ (sg : Signature) (fs : List Bool) (bs : List (Cell (List ℕ))) (vs : List (Option Read)) (guess : IsGuess sg fs bs vs) (t : Read) (free : Free fs bs t) where
  abbrev some_typed : (b : Cell (List ℕ)) → HasType sg [] (anything b) b.type
  some_typed b = expansion_typed sg b.hint b.type [] (nominal (record { number = 0; type = b.type })) refl

  pub dropped_typed : HasType sg (context_of bs []) t o → HasType sg [] (dropped_with bs vs t) o
  dropped_typed d =
      let all = total_typed sg anything some_typed o fs bs vs guess in
      subst (λ z. HasType sg [] z o) (sym (drops bs vs (total anything bs vs) t (drops_total anything fs bs vs t (guess_shape sg fs bs vs guess) free) (all_unmoved sg o bs (total anything bs vs) all)))
      (closed_with_typed sg {G = []} bs (total anything bs vs) t all d)

  pub dropped_has : (P : Head ℕ → Type 0) (logicals : (l : Logical) → P (logical l)) → ((c : List ℕ) → P (constant c)) → OptionsHave P logicals vs → Has P t → Has P (dropped_with bs vs t)
  dropped_has P logicals constants e h =
      subst (Has P) (sym (drops bs vs (total blank bs vs) t (drops_total blank fs bs vs t (guess_shape sg fs bs vs guess) free) (total_blank prop sg bs vs (guess_typed sg fs bs vs guess))))
      (closed_has P logicals bs (total blank bs vs) t (blank_has P logicals constants bs vs e) h)

-- CELLS OF THE SAME TYPES
abbrev pub types_in : List (Cell (List ℕ)) → List Ty
types_in = map (λ (c : Cell (List ℕ)). c.type)

pub same_dropped : (bs cs : List (Cell (List ℕ))) → types_in bs ≡ types_in cs → (vs : List (Option Read)) (t : Read) → dropped_with bs vs t ≡ dropped_with cs vs t
same_dropped [] [] e vs t = refl
same_dropped [] (c ∷ cs) e vs t = absurd (cc)
same_dropped (b ∷ bs) [] e vs t = absurd (cc)
same_dropped (b ∷ bs) (c ∷ cs) e [] t = refl
same_dropped (b ∷ bs) (c ∷ cs) e (None ∷ vs) t = let rest : types_in bs ≡ types_in cs = cc in ap (lower zero) (same_dropped bs cs rest vs t)
same_dropped (b ∷ bs) (c ∷ cs) e (Some u ∷ vs) t =
    let one : b.type ≡ c.type = cc in
    let rest : types_in bs ≡ types_in cs = cc in
    ap (λ A. substitute A u zero (dropped_with bs vs t)) one ∙ ap (substitute c.type u zero) (same_dropped bs cs rest vs t)

pub same_closed : (bs cs : List (Cell (List ℕ))) → types_in bs ≡ types_in cs → (vs : List (Option Read)) (t : Read) → forget (closed_with bs vs t) ≡ forget (closed_with cs vs t)
same_closed [] [] e vs t = refl
same_closed [] (c ∷ cs) e vs t = absurd (cc)
same_closed (b ∷ bs) [] e vs t = absurd (cc)
same_closed (b ∷ bs) (c ∷ cs) e [] t = refl
same_closed (b ∷ bs) (c ∷ cs) e (None ∷ vs) t =
    let one : b.type ≡ c.type = cc in
    let rest : types_in bs ≡ types_in cs = cc in
    ap (λ A. for_some A tt (forget (closed_with bs vs t))) one ∙ ap (for_some c.type tt) (same_closed bs cs rest vs t)
same_closed (b ∷ bs) (c ∷ cs) e (Some u ∷ vs) t =
    let one : b.type ≡ c.type = cc in
    let rest : types_in bs ≡ types_in cs = cc in
    translate-substitute (λ v. v) (λ h. tt) b.type u zero (closed_with bs vs t)
    ∙ ap (λ A. substitute A (forget u) zero (forget (closed_with bs vs t))) one
    ∙ ap (substitute c.type (forget u) zero) (same_closed bs cs rest vs t)
    ∙ sym (translate-substitute (λ v. v) (λ h. tt) c.type u zero (closed_with cs vs t))

pub same_context : (bs cs : List (Cell (List ℕ))) → types_in bs ≡ types_in cs → (G : List Ty) → context_of bs G ≡ context_of cs G
same_context [] [] e G = refl
same_context [] (c ∷ cs) e G = absurd (cc)
same_context (b ∷ bs) [] e G = absurd (cc)
same_context (b ∷ bs) (c ∷ cs) e G =
    let one : b.type ≡ c.type = cc in
    let rest : types_in bs ≡ types_in cs = cc in
    same_context bs cs rest (b.type ∷ G) ∙ ap (λ A. context_of cs (A ∷ G)) one

pub same_length : (bs cs : List (Cell (List ℕ))) → types_in bs ≡ types_in cs → length bs ≡ length cs
same_length [] [] e = refl
same_length [] (c ∷ cs) e = absurd (cc)
same_length (b ∷ bs) [] e = absurd (cc)
same_length (b ∷ bs) (c ∷ cs) e = let rest : types_in bs ≡ types_in cs = cc in ap (λ n. suc n) (same_length bs cs rest)

pub same_free : (fs : List Bool) (bs cs : List (Cell (List ℕ))) → types_in bs ≡ types_in cs → (t : Read) → Free fs bs t → Free fs cs t
same_free [] [] [] e t f = tt
same_free fs [] (c ∷ cs) e t f = absurd (cc)
same_free fs (b ∷ bs) [] e t f = absurd (cc)
same_free (true ∷ fs) (b ∷ bs) (c ∷ cs) e t f =
    let rest : types_in bs ≡ types_in cs = cc in
    ((f.0.0, f.0.1 ∙ ap (λ k. shift k f.0.0) (same_length bs cs rest)), same_free fs bs cs rest t f.1)
same_free (false ∷ fs) (b ∷ bs) (c ∷ cs) e t f = let rest : types_in bs ≡ types_in cs = cc in same_free fs bs cs rest t f
same_free (true ∷ fs) [] [] e t f = absurd f
same_free (false ∷ fs) [] [] e t f = absurd f
same_free [] (b ∷ bs) (c ∷ cs) e t f = absurd f
