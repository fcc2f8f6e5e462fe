-- Pruning: what is put in is closed and well-typed, and no foreign name is left in the term.
use Rattle.std.proofs.Common.{◌≡◌, ℕ, ◌≤◌, inl, inr, List, [], ◌∷◌, map, length, Bool, true, false, cond, Option, Some, None, refl, sym, ◌∙◌, ap, subst, arith}
use Rattle.std.proofs.lemmas.List.Elements.{All-cons, All-nil, All-head}
use Rattle.std.proofs.lemmas.Bool.{false≢true, or_cases}
use Rattle.ab_term.specs.Types.{Ty, kind, arity}
use Rattle.ab_term.specs.Terms.{Variable, Head, variable, Term, spine, Terms}
use Rattle.ab_term.specs.Typing.{Signature, HasType, TakeType, typed_spine}
use Rattle.ab_term.specs.Substitution.{reduce}
use Rattle.ab_term.specs.Translation.{forget}
use Rattle.ab_term.specs.Variables.{put_for, Substitution, value_in, image, composition, IsTyped}
use Rattle.ab_term.specs.Sameness.{same_numbered, same_head, same_number}
use Rattle.ab_term.specs.Abstraction.{among, Named, Only, Distinct}
use Rattle.ab_term.proofs.Compositions.{then_by, value_in-composition, image_typed, image-composition, composition_typed}
use Rattle.ab_term.proofs.Same.{same_numbered-Decides, same_head-Decides}
use Rattle.ab_term.proofs.Only.{Nameless, image_by_only}
use Rattle.ab_term.proofs.Abstracting.{named_length, only_past_hints}
use Rattle.ab_unifiers.specs.Patterns.{applied, value, kept, kept_type}
use Rattle.ab_unifiers.specs.Replacements.{Change, without, holds, next_variable, one, narrowed}
use Rattle.ab_unifiers.proofs.Views.{IsPattern, pattern_length}
use Rattle.ab_unifiers.proofs.Values.{pattern_named, applied_typed, value_typed, reduce_value}
use Rattle.ab_unifiers.proofs.Narrowing.{narrowed_same}
use Rattle.ab_unifiers.proofs.Agreeing.{holds_front, holds_behind, holds_itself, image_pattern}
use Rattle.ab_unifiers.proofs.Readings.{pattern_past_hints, pattern_distinct, name_terms_pattern, applied_only, applied_past_hints, kept_among, kept_distinct, kept_named}
use Rattle.ab_unifiers.proofs.Falling.{map_length, holds_without}

-- what is kept passes the test
pub kept_pass : (names gs : List (Head ℕ)) (g : Head ℕ) → among (kept (map (among names) gs) gs) g ≡ true → among names g ≡ true
kept_pass names [] g e = absurd (false≢true e)
kept_pass names (h ∷ hs) g e = go (among names h) refl e (kept_pass names hs g)
  where
    go : (b : Bool) → among names h ≡ b → among (cond b (h ∷ kept (map (among names) hs) hs) (kept (map (among names) hs) hs)) g ≡ true → (among (kept (map (among names) hs) hs) g ≡ true → among names g ≡ true) → among names g ≡ true
    go true a f rest = elim (or_cases (same_head h g) (among (kept (map (among names) hs) hs) g) f) [ inl s ↦ subst (λ k. among names k ≡ true) ((same_head-Decides h g).0 s) a | inr m ↦ rest m ]
    go false a f rest = rest f

module _ {Hint : Type 0} where
  pub value_then : (s r : Substitution ℕ Hint) (y : Variable ℕ) → value_in same_number (composition same_number s r) y ≡ then_by (value_in same_number r) y (value_in same_number s y)
  value_then s r y = value_in-composition same_number s r y

module _ (sg : Signature) {Hint : Type 0} where
  -- what is put in is closed, well-typed and without names
  pub record Safe (s : Substitution ℕ Hint) : Type 0 where
    pub typed : IsTyped sg s
    pub nameless : Nameless (value_in same_number s)

  pub none_safe : Safe []
  none_safe = record { typed = All-nil (λ p. HasType sg [] p.1 p.0.type); nameless = λ y u e. absurd (let none : None ≡ Some u = e in cc) }

  pub one_safe : (y : Variable ℕ) (v : Term ℕ Hint) → HasType sg [] v y.type → Only [] v → Safe ((y, v) ∷ [])
  one_safe y v d o = record { typed = All-cons (λ p. HasType sg [] p.1 p.0.type) (y, v) [] d (none_safe.typed); nameless = λ z u e. go (same_numbered y z) u e }
    where
      go : (b : Bool) (u : Term ℕ Hint) → cond b (Some v) None ≡ Some u → Only [] u
      go true u e = let equal : v ≡ u = cc in subst (Only []) equal o
      go false u e = absurd (cc)

  -- two substitutions side by side
  pub pair_safe : (y : Variable ℕ) (v : Term ℕ Hint) (s : Substitution ℕ Hint) → Safe ((y, v) ∷ []) → Safe s → Safe ((y, v) ∷ s)
  pair_safe y v s a b = record {
    typed = All-cons (λ p. HasType sg [] p.1 p.0.type) (y, v) s (All-head (λ p. HasType sg [] p.1 p.0.type) (y, v) [] a.typed) b.typed;
    nameless = λ z u e. go z (same_numbered y z) refl u e;
  }
    where
      go : (z : Variable ℕ) (t : Bool) → same_numbered y z ≡ t → (u : Term ℕ Hint) → cond t (Some v) (value_in same_number s z) ≡ Some u → Only [] u
      go z true f u e = a.nameless z u (ap (λ t. cond t (Some v) None) f ∙ e)
      go z false f u e = b.nameless z u e

  pub both_safe : (s r : Substitution ℕ Hint) → Safe s → Safe r → Safe (composition same_number s r)
  both_safe s r a b = record { typed = composition_typed sg same_number s a.typed r b.typed; nameless = λ y u e. go y (value_in same_number s y) refl u (sym (value_then s r y) ∙ e) }
    where
      go : (y : Variable ℕ) (o : Option (Term ℕ Hint)) → value_in same_number s y ≡ o → (u : Term ℕ Hint) → then_by (value_in same_number r) y o ≡ Some u → Only [] u
      go y None f u e = b.nameless y u e
      go y (Some v) f u e = let equal : image same_number r v ≡ u = cc in subst (Only []) equal (image_by_only (value_in same_number r) b.nameless [] v (a.nameless y v f))

  pub spine_args : (G : List Ty) (z : Variable ℕ) (us : Terms ℕ Hint) (B : Ty) → HasType sg G (spine (variable z) us) B → (k : List ℕ) × (B ≡ kind k) × TakeType sg G us z.type (kind k)
  spine_args G z us B (typed_spine {A = D} {k = k} e ds) = let same : D ≡ z.type = cc in (k, refl, subst (λ E. TakeType sg G us E (kind k)) same ds)

module _ (sg : Signature) {Hint : Type 0} (x : Hint) where
  -- a new variable over some of the names of z
  pub narrow_safe : (G : List Ty) (k : List ℕ) (n : ℕ) (z : Variable ℕ) (gs : List (Head ℕ)) (keep : List Bool) → Named sg G gs z.type (kind k) → length keep ≡ length gs → Safe sg (one x z gs (applied x (record { name = n; type = kept_type keep z.type }) (kept keep gs)))
  narrow_safe G k n z gs keep named l =
      let w : Variable ℕ = record { name = n; type = kept_type keep z.type } in
      let v = value_typed sg x z gs (applied x w (kept keep gs)) G k named (applied_typed sg x w k (kept_named keep l named)) (applied_only x w (kept keep gs) gs (kept_among keep gs)) in
      one_safe sg z (value x z gs (applied x w (kept keep gs))) v.0 v.1

  -- given other names, it is the new variable over those of them
  pub narrow_image : (G : List Ty) (k : List ℕ) (n : ℕ) (z : Variable ℕ) (gs : List (Head ℕ)) (keep : List Bool) (us : Terms ℕ Hint) (hs : List (Head ℕ)) → Distinct gs → length gs ≡ length hs → length keep ≡ length hs → IsPattern z.type us hs → TakeType sg G us z.type (kind k)
      → forget (reduce z.type (value x z gs (applied x (record { name = n; type = kept_type keep z.type }) (kept keep gs))) us) ≡ forget (applied x (record { name = n; type = kept_type keep z.type }) (kept keep hs))
  narrow_image G k n z gs keep us hs d l m p ds =
      let w : Variable ℕ = record { name = n; type = kept_type keep z.type } in
      let named = pattern_named sg p ds in
      ap (λ v. forget (reduce z.type v us)) (narrowed_same x z.type gs hs w keep d (pattern_distinct p) l (pattern_length p))
      ∙ reduce_value sg x (applied x w (kept keep hs)) p named (applied_typed sg x w k (kept_named keep m named))

  -- what a pattern has become: a pattern with some of its names, whose variable may still be replaced
  pub record Became (c : Change Hint) (y : Variable ℕ) (ts : Terms ℕ Hint) (hs : List (Head ℕ)) : Type 0 where
    pub now : Variable ℕ
    pub args : Terms ℕ Hint
    pub names : List (Head ℕ)
    pub is : image same_number c.pairs (spine (variable y) ts) ≡ spine (variable now) args
    pub flexible : holds c.flexible now ≡ true
    pub pattern : IsPattern now.type args names
    pub fewer : (g : Head ℕ) → among names g ≡ true → among hs g ≡ true

  abbrev pub Tracks : Change Hint → Variable ℕ → Type 0
  Tracks c y = (G : List Ty) (ts : Terms ℕ Hint) (hs : List (Head ℕ)) (k : List ℕ) → IsPattern y.type ts hs → TakeType sg G ts y.type (kind k) → Became c y ts hs

  -- the new variable with the kept names of a pattern
  kept_became : (c : Change Hint) (y : Variable ℕ) (ts : Terms ℕ Hint) (hs gs : List (Head ℕ)) (w : Variable ℕ) → forget (image same_number c.pairs (spine (variable y) ts)) ≡ forget (applied x w gs) → holds c.flexible w ≡ true → Distinct gs → length gs ≤ arity w.type → ((g : Head ℕ) → among gs g ≡ true → among hs g ≡ true) → Became c y ts hs
  kept_became c y ts hs gs w e h d l f =
      let r = applied_past_hints (image same_number c.pairs (spine (variable y) ts)) w _ e in
      record { now = w; args = r.0; names = gs; is = r.1; flexible = h; pattern = pattern_past_hints (name_terms_pattern x w.type gs d l) r.0 r.2; fewer = f }

  -- the image of what a pattern has become
  narrowed_now : (c : Change Hint) → Safe sg c.pairs → (more : Substitution ℕ Hint) → Safe sg more → (y : Variable ℕ) (ts : Terms ℕ Hint) (hs : List (Head ℕ)) (H : List Ty) (j : List ℕ) → TakeType sg H ts y.type (kind j) → (b : Became c y ts hs)
      → image same_number (composition same_number c.pairs more) (spine (variable y) ts) ≡ put_for b.now (value_in same_number more b.now) b.args
  narrowed_now c safe more more_safe y ts hs H j ds b =
      let whole : HasType sg H (spine (variable y) ts) (kind j) = typed_spine refl ds in
      image-composition sg same_number c.pairs safe.typed more more_safe.typed whole
      ∙ ap (image same_number more) b.is
      ∙ ap (put_for b.now (value_in same_number more b.now)) (image_pattern (value_in same_number more) b.pattern)

  pub now_typed : (c : Change Hint) → Safe sg c.pairs → (y : Variable ℕ) (ts : Terms ℕ Hint) (hs : List (Head ℕ)) (H : List Ty) (j : List ℕ) → TakeType sg H ts y.type (kind j) → (b : Became c y ts hs) → (k : List ℕ) × (kind j ≡ kind k) × TakeType sg H b.args b.now.type (kind k)
  now_typed c safe y ts hs H j ds b =
      let whole : HasType sg H (spine (variable y) ts) (kind j) = typed_spine refl ds in
      spine_args sg H b.now b.args (kind j) (subst (λ t. HasType sg H t (kind j)) b.is (image_typed sg same_number c.pairs safe.typed whole))

  narrowed_one : (c : Change Hint) → Safe sg c.pairs → (G : List Ty) (k : List ℕ) (z : Variable ℕ) (gs : List (Head ℕ)) (keep : List Bool) → Named sg G gs z.type (kind k) → Distinct gs → length keep ≡ length gs → (y : Variable ℕ) (ts : Terms ℕ Hint) (hs : List (Head ℕ)) (H : List Ty) (j : List ℕ) → TakeType sg H ts y.type (kind j) → (b : Became c y ts hs) → (t : Bool) → same_numbered z b.now ≡ t → Became (narrowed x z gs keep c) y ts hs
  narrowed_one c safe G k z gs keep named distinct l y ts hs H j ds b true e =
      let w : Variable ℕ = next_variable x c.cells (kept_type keep z.type) in
      let v : Term ℕ Hint = value x z gs (applied x w (kept keep gs)) in
      let more : Substitution ℕ Hint = one x z gs (applied x w (kept keep gs)) in
      let more_safe = narrow_safe G k (length c.cells) z gs keep named l in
      let equal : z ≡ b.now = (same_numbered-Decides z b.now).0 e in
      let r = now_typed c safe y ts hs H j ds b in
      let args_typed : TakeType sg H b.args z.type (kind r.0) = subst (λ u. TakeType sg H b.args u.type (kind r.0)) (sym equal) r.2 in
      let args_pattern : IsPattern z.type b.args b.names = subst (λ u. IsPattern u.type b.args b.names) (sym equal) b.pattern in
      let names_named = pattern_named sg args_pattern args_typed in
      let first : length gs ≡ arity z.type = named_length k named in
      let second : length b.names ≡ arity z.type = named_length r.0 names_named in
      let lengths : length gs ≡ length b.names = first ∙ sym second in
      let flags : length keep ≡ length b.names = l ∙ lengths in
      let kept_length : length (kept keep b.names) ≡ arity (kept_type keep z.type) = named_length r.0 (kept_named keep flags names_named) in
      let image_is : image same_number (composition same_number c.pairs more) (spine (variable y) ts) ≡ reduce z.type v b.args =
      narrowed_now c safe more more_safe y ts hs H j ds b
      ∙ ap (λ t. put_for b.now (cond t (Some v) None) b.args) e
      ∙ ap (λ u. reduce u.type v b.args) (sym equal) in
      kept_became (narrowed x z gs keep c) y ts hs (kept keep b.names) w
      (ap forget image_is ∙ narrow_image H r.0 (length c.cells) z gs keep b.args b.names distinct lengths flags args_pattern args_typed)
      (holds_behind (without z c.flexible) (w ∷ []) w (holds_itself w))
      (kept_distinct keep b.names (pattern_distinct b.pattern))
      (omega (arith, kept_length))
      (λ g f. b.fewer g (kept_among keep b.names g f))
  narrowed_one c safe G k z gs keep named distinct l y ts hs H j ds b false e =
      let w : Variable ℕ = next_variable x c.cells (kept_type keep z.type) in
      let v : Term ℕ Hint = value x z gs (applied x w (kept keep gs)) in
      let more : Substitution ℕ Hint = one x z gs (applied x w (kept keep gs)) in
      let more_safe = narrow_safe G k (length c.cells) z gs keep named l in
      record {
        now = b.now;
        args = b.args;
        names = b.names;
        is = narrowed_now c safe more more_safe y ts hs H j ds b ∙ ap (λ t. put_for b.now (cond t (Some v) None) b.args) e;
        flexible = holds_front (without z c.flexible) (w ∷ []) b.now (holds_without z b.now (λ q. false≢true (sym e ∙ (same_numbered-Decides z b.now).1 q)) c.flexible b.flexible);
        pattern = b.pattern;
        fewer = b.fewer;
      }

  pub narrowed_tracks : (c : Change Hint) → Safe sg c.pairs → (G : List Ty) (k : List ℕ) (z : Variable ℕ) (gs : List (Head ℕ)) (keep : List Bool) → Named sg G gs z.type (kind k) → Distinct gs → length keep ≡ length gs → (y : Variable ℕ) → Tracks c y → Tracks (narrowed x z gs keep c) y
  narrowed_tracks c safe G k z gs keep named distinct l y tracks H ts hs j p ds =
      let b = tracks H ts hs j p ds in
      narrowed_one c safe G k z gs keep named distinct l y ts hs H j ds b (same_numbered z b.now) refl

  -- the names that may stand there are kept, so no other is left
  pub narrowed_only : (names : List (Head ℕ)) (c : Change Hint) → Safe sg c.pairs → (G : List Ty) (k : List ℕ) (y : Variable ℕ) (ts : Terms ℕ Hint) (hs : List (Head ℕ)) → TakeType sg G ts y.type (kind k) → (b : Became c y ts hs) → Only names (image same_number (narrowed x b.now b.names (map (among names) b.names) c).pairs (spine (variable y) ts))
  narrowed_only names c safe G k y ts hs ds b =
      let keep = map (among names) b.names in
      let w : Variable ℕ = next_variable x c.cells (kept_type keep b.now.type) in
      let v : Term ℕ Hint = value x b.now b.names (applied x w (kept keep b.names)) in
      let more : Substitution ℕ Hint = one x b.now b.names (applied x w (kept keep b.names)) in
      let r = now_typed c safe y ts hs G k ds b in
      let named = pattern_named sg b.pattern r.2 in
      let flags : length keep ≡ length b.names = map_length (among names) b.names in
      let more_safe = narrow_safe G r.0 (length c.cells) b.now b.names keep named flags in
      let image_is : image same_number (composition same_number c.pairs more) (spine (variable y) ts) ≡ reduce b.now.type v b.args =
      narrowed_now c safe more more_safe y ts hs G k ds b ∙ ap (λ t. put_for b.now (cond t (Some v) None) b.args) ((same_numbered-Decides b.now b.now).1 refl) in
      only_past_hints names (applied x w (kept keep b.names)) (image same_number (composition same_number c.pairs more) (spine (variable y) ts))
      (sym (ap forget image_is ∙ narrow_image G r.0 (length c.cells) b.now b.names keep b.args b.names (pattern_distinct b.pattern) refl flags b.pattern r.2))
      (applied_only x w (kept keep b.names) names (kept_pass names b.names))
