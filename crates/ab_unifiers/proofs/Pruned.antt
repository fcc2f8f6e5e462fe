-- What pruning leaves.
use Rattle.std.proofs.Common.{◌≡◌, ℕ, inl, inr, List, [], ◌∷◌, map, length, Bool, true, false, cond, ◌||◌, Option, Some, None, is_some, refl, sym, ◌∙◌, ap, subst}
use Rattle.std.specs.List.{list_all}
use Rattle.std.proofs.lemmas.Bool.{false≢true, and_parts, or_cases}
use Rattle.ab_term.specs.Types.{Ty, kind}
use Rattle.ab_term.specs.Terms.{Variable, Head, constant, logical, nominal, variable, index, Term, lam, spine, Terms, no_terms, term}
use Rattle.ab_term.specs.Typing.{Signature, HasType, TakeType, typed_lam, typed_spine, take_none, take_term}
use Rattle.ab_term.specs.Variables.{variables, variables_of_all, Substitution, value_in, image, image_all, composition}
use Rattle.ab_term.specs.Sameness.{same_head, same_number}
use Rattle.ab_term.specs.Abstraction.{among, under, may_stand, Only, OnlyAll, Distinct}
use Rattle.ab_term.proofs.Compositions.{image_typed, image-composition}
use Rattle.ab_term.proofs.Same.{same_head-Decides}
use Rattle.ab_term.proofs.Only.{image_by_only, put_at_only}
use Rattle.ab_term.proofs.Depends.{nothing, image_nothing}
use Rattle.ab_unifiers.specs.Patterns.{pattern, applied, kept, kept_type}
use Rattle.ab_unifiers.specs.Replacements.{Change, holds, has_patterns, all_have_patterns, no_foreign, no_foreign_all, next_variable, one, narrowed, pruned_names, pruned_here, pruned, pruned_all}
use Rattle.ab_unifiers.proofs.Views.{IsPattern, is_pattern}
use Rattle.ab_unifiers.proofs.Values.{pattern_named}
use Rattle.ab_unifiers.proofs.Agreeing.{holds_front, holds_behind, holds_itself, image_agrees}
use Rattle.ab_unifiers.proofs.Readings.{pattern_back, pattern_distinct, pattern_only}
use Rattle.ab_unifiers.proofs.Falling.{map_length}
use Rattle.ab_unifiers.proofs.Pruning.{Safe, none_safe, both_safe, narrow_safe, Became, Tracks, narrowed_tracks, now_typed, narrowed_only}

pub all_pass : (names gs : List (Head ℕ)) (g : Head ℕ) → list_all (among names) gs ≡ true → among gs g ≡ true → among names g ≡ true
all_pass names [] g all e = absurd (false≢true e)
all_pass names (h ∷ hs) g all e =
    let parts = and_parts (among names h) (list_all (among names) hs) all in
    elim (or_cases (same_head h g) (among hs g) e) [ inl s ↦ subst (λ k. among names k ≡ true) ((same_head-Decides h g).0 s) parts.0 | inr m ↦ all_pass names hs g parts.1 m ]

module _ (sg : Signature) {Hint : Type 0} (x : Hint) (ys : List (Variable ℕ)) (Tracked : Variable ℕ → Type 0) (Inv : Change Hint → Type 0)
    (keeps : (c : Change Hint) (z : Variable ℕ) (gs : List (Head ℕ)) (keep : List Bool) → holds c.flexible z ≡ true → Distinct gs → Inv c → Inv (narrowed x z gs keep c)) where
  pub record Fine (c : Change Hint) : Type 0 where
    pub safe : Safe sg c.pairs
    pub tracks : (y : Variable ℕ) → Tracked y → Tracks sg x c y
    pub inv : Inv c

  -- more has been put in, in what there was
  pub record Further (c d : Change Hint) : Type 0 where
    pub fine : Fine d
    pub more : Substitution ℕ Hint
    pub more_safe : Safe sg more
    pub extends : (G : List Ty) (t : Term ℕ Hint) (A : Ty) → HasType sg G t A → image same_number d.pairs t ≡ image same_number more (image same_number c.pairs t)

  no_further : (c : Change Hint) → Fine c → Further c c
  no_further c f = record { fine = f; more = []; more_safe = none_safe sg; extends = λ G t A d. sym (image_agrees (value_in same_number []) nothing (image same_number c.pairs t) (λ y e. refl) ∙ image_nothing (image same_number c.pairs t)) }

  then_further : (b c d : Change Hint) → Fine b → Further b c → Further c d → Further b d
  then_further b c d f p q = record {
    fine = q.fine;
    more = composition same_number p.more q.more;
    more_safe = both_safe sg p.more q.more p.more_safe q.more_safe;
    extends = λ G t A e.
        q.extends G t A e ∙ ap (image same_number q.more) (p.extends G t A e)
        ∙ sym (image-composition sg same_number p.more p.more_safe.typed q.more q.more_safe.typed (image_typed sg same_number b.pairs f.safe.typed e));
  }

  one_further : (c : Change Hint) → Fine c → (G : List Ty) (k : List ℕ) (z : Variable ℕ) (us : Terms ℕ Hint) (gs : List (Head ℕ)) (keep : List Bool) → holds c.flexible z ≡ true → IsPattern z.type us gs → TakeType sg G us z.type (kind k) → length keep ≡ length gs → Further c (narrowed x z gs keep c)
  one_further c f G k z us gs keep h p ds l =
      let w = next_variable x c.cells (kept_type keep z.type) in
      let named = pattern_named sg p ds in
      let more = one x z gs (applied x w (kept keep gs)) in
      let more_safe = narrow_safe sg x G k (length c.cells) z gs keep named l in
      record {
        fine = record {
          safe = both_safe sg c.pairs more f.safe more_safe;
          tracks = λ y t. narrowed_tracks sg x c f.safe G k z gs keep named (pattern_distinct p) l y (f.tracks y t);
          inv = keeps c z gs keep h (pattern_distinct p) f.inv;
        };
        more = more;
        more_safe = more_safe;
        extends = λ H t A e. image-composition sg same_number c.pairs f.safe.typed more more_safe.typed e;
      }

  -- at a flexible subterm
  at_names : (names : List (Head ℕ)) (G : List Ty) (y : Variable ℕ) (ts : Terms ℕ Hint) (hs : List (Head ℕ)) (k : List ℕ) (c : Change Hint) → Fine c → IsPattern y.type ts hs → TakeType sg G ts y.type (kind k) → (b : Became sg x c y ts hs) → (t : Bool) → list_all (among names) b.names ≡ t
      → Further c (cond t c (narrowed x b.now b.names (map (among names) b.names) c)) × Only names (image same_number (cond t c (narrowed x b.now b.names (map (among names) b.names) c)).pairs (spine (variable y) ts))
  at_names names G y ts hs k c f p ds b true e = (no_further c f, subst (Only names) (sym b.is) (refl, pattern_only names b.pattern (λ g a. all_pass names b.names g e a)))
  at_names names G y ts hs k c f p ds b false e =
      let r = now_typed sg x c f.safe y ts hs G k ds b in
      let keep = map (among names) b.names in (
        one_further c f G r.0 b.now b.args b.names keep b.flexible b.pattern r.2 (map_length (among names) b.names),
        narrowed_only sg x names c f.safe G k y ts hs ds b,
      )

  at_flexible : (names : List (Head ℕ)) (G : List Ty) (y : Variable ℕ) (ts : Terms ℕ Hint) (hs : List (Head ℕ)) (k : List ℕ) (c : Change Hint) → Fine c → Tracked y → IsPattern y.type ts hs → TakeType sg G ts y.type (kind k)
      → Further c (pruned_here x names (image same_number c.pairs (spine (variable y) ts)) c) × Only names (image same_number (pruned_here x names (image same_number c.pairs (spine (variable y) ts)) c).pairs (spine (variable y) ts))
  at_flexible names G y ts hs k c f tracked p ds =
      let b = f.tracks y tracked G ts hs k p ds in
      let same_change : cond (list_all (among names) b.names) c (narrowed x b.now b.names (map (among names) b.names) c) ≡ pruned_here x names (image same_number c.pairs (spine (variable y) ts)) c =
      sym (ap (λ u. pruned_here x names u c) b.is ∙ ap (λ t. cond t (pruned_names x names b.now (pattern b.now.type b.args) c) c) b.flexible ∙ ap (λ o. pruned_names x names b.now o c) (pattern_back b.pattern)) in
      subst (λ d. Further c d × Only names (image same_number d.pairs (spine (variable y) ts))) same_change (at_names names G y ts hs k c f p ds b (list_all (among names) b.names) refl)

  abbrev Pruned : List (Head ℕ) → Change Hint → Term ℕ Hint → Type 0
  Pruned names c t = Further c (pruned x ys names t c) × Only names (image same_number (pruned x ys names t c).pairs t)

  abbrev AllPruned : List (Head ℕ) → Change Hint → Terms ℕ Hint → Type 0
  AllPruned names c ts = Further c (pruned_all x ys names ts c) × OnlyAll names (image_all same_number (pruned_all x ys names ts c).pairs ts)

  -- the flexible variables of the term are tracked
  abbrev pub AreTracked : List (Variable ℕ) → Type 0
  AreTracked vs = (y : Variable ℕ) → holds vs y ≡ true → holds ys y ≡ true → Tracked y

  rigid_pruned : (names : List (Head ℕ)) (c : Change Hint) (h : Head ℕ) (ts : Terms ℕ Hint) → may_stand names h ≡ true → AllPruned names c ts → Further c (pruned_all x ys names ts c) × Only names (image same_number (pruned_all x ys names ts c).pairs (spine h ts))
  rigid_pruned names c h ts e p = (p.0, put_at_only (value_in same_number (pruned_all x ys names ts c).pairs) p.0.fine.safe.nameless names h (image_all same_number (pruned_all x ys names ts c).pairs ts) e p.1)

  pub some_pattern : (A : Ty) (ts : Terms ℕ Hint) → is_some (pattern A ts) ≡ true → (hs : List (Head ℕ)) × IsPattern A ts hs
  some_pattern A ts e = go (pattern A ts) refl e
    where
      go : (o : Option (List (Head ℕ))) → pattern A ts ≡ o → is_some o ≡ true → (hs : List (Head ℕ)) × IsPattern A ts hs
      go None f e = absurd (false≢true e)
      go (Some hs) f e = (hs, is_pattern A ts hs f)

  at_variable : (names : List (Head ℕ)) (G : List Ty) (y : Variable ℕ) (ts : Terms ℕ Hint) (k : List ℕ) (c : Change Hint) → Fine c → TakeType sg G ts y.type (kind k) → AreTracked (y ∷ variables_of_all ts) → (b : Bool) → holds ys y ≡ b → cond b (is_some (pattern y.type ts)) (all_have_patterns ys ts) ≡ true → (b || no_foreign_all ys names ts) ≡ true → (all_have_patterns ys ts ≡ true → no_foreign_all ys names ts ≡ true → AllPruned names c ts)
      → Further c (cond b (pruned_here x names (image same_number c.pairs (spine (variable y) ts)) c) (pruned_all x ys names ts c)) × Only names (image same_number (cond b (pruned_here x names (image same_number c.pairs (spine (variable y) ts)) c) (pruned_all x ys names ts c)).pairs (spine (variable y) ts))
  at_variable names G y ts k c f ds tracked true e p n rest =
      let q = some_pattern y.type ts p in
      at_flexible names G y ts q.0 k c f (tracked y (holds_front (y ∷ []) (variables_of_all ts) y (holds_itself y)) e) q.1 ds
  at_variable names G y ts k c f ds tracked false e p n rest = rigid_pruned names c (variable y) ts refl (rest p n)

  mutual
    -- PRUNING LEAVES NO FOREIGN NAME
    pub pruned_fine : (names : List (Head ℕ)) {G : List Ty} {A : Ty} (t : Term ℕ Hint) (c : Change Hint) → HasType sg G t A → Fine c → AreTracked (variables t) → has_patterns ys t ≡ true → no_foreign ys names t ≡ true → Pruned names c t
    pruned_fine names (lam B y t) c (typed_lam d) f tracked p n = pruned_fine (under names) t c d f tracked p n
    pruned_fine names (spine (constant b) ts) c (typed_spine e ds) f tracked p n = rigid_pruned names c (constant b) ts refl (pruned_all_fine names ts c ds f tracked p n)
    pruned_fine names (spine (logical b) ts) c (typed_spine e ds) f tracked p n = rigid_pruned names c (logical b) ts refl (pruned_all_fine names ts c ds f tracked p n)
    pruned_fine names (spine (nominal b) ts) c (typed_spine e ds) f tracked p n =
        let parts = and_parts (among names (nominal b)) (no_foreign_all ys names ts) n in
        rigid_pruned names c (nominal b) ts parts.0 (pruned_all_fine names ts c ds f tracked p parts.1)
    pruned_fine names (spine (index b) ts) c (typed_spine e ds) f tracked p n =
        let parts = and_parts (among names (index b)) (no_foreign_all ys names ts) n in
        rigid_pruned names c (index b) ts parts.0 (pruned_all_fine names ts c ds f tracked p parts.1)
    pruned_fine names {G = G} (spine (variable y) ts) c (typed_spine {A = D} {k = k} e ds) f tracked p n =
        let same_type : D ≡ y.type = cc in
        at_variable names G y ts k c f (subst (λ E. TakeType sg G ts E (kind k)) same_type ds) tracked (holds ys y) refl p n
        (λ p n. pruned_all_fine names ts c ds f (λ v a b. tracked v (holds_behind (y ∷ []) (variables_of_all ts) v a) b) p n)

    pub pruned_all_fine : (names : List (Head ℕ)) {G : List Ty} {A B : Ty} (ts : Terms ℕ Hint) (c : Change Hint) → TakeType sg G ts A B → Fine c → AreTracked (variables_of_all ts) → all_have_patterns ys ts ≡ true → no_foreign_all ys names ts ≡ true → AllPruned names c ts
    pruned_all_fine names no_terms c take_none f tracked p n = (no_further c f, tt)
    pruned_all_fine names {G = G} (term t ts) c (take_term {A = A} d ds) f tracked p n =
        let ps = and_parts (has_patterns ys t) (all_have_patterns ys ts) p in
        let ns = and_parts (no_foreign ys names t) (no_foreign_all ys names ts) n in
        let first = pruned_fine names t c d f (λ v a b. tracked v (holds_front (variables t) (variables_of_all ts) v a) b) ps.0 ns.0 in
        let c1 = pruned x ys names t c in
        let rest = pruned_all_fine names ts c1 ds first.0.fine (λ v a b. tracked v (holds_behind (variables t) (variables_of_all ts) v a) b) ps.1 ns.1 in (
          then_further c c1 (pruned_all x ys names ts c1) f first.0 rest.0,
          (subst (Only names) (sym (rest.0.extends G t A d)) (image_by_only (value_in same_number rest.0.more) rest.0.more_safe.nameless names (image same_number c1.pairs t) first.1), rest.1),
        )
