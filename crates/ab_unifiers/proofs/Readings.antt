-- A pattern is read back: its names are found; what is kept of its names is a pattern again.
use Rattle.std.proofs.Common.{◌≡◌, ℕ, ◌≤◌, ◌⊎◌, inl, inr, List, [], ◌∷◌, length, Bool, true, false, cond, ◌&&◌, Some, None, refl, sym, ◌∙◌, ap, subst, arith}
use Rattle.std.proofs.lemmas.Bool.{false≢true, and_from, or_cases, or_left, or_right, false_from_ne_true}
use Rattle.ab_term.specs.Types.{Ty, kind, arrow, arity}
use Rattle.ab_term.specs.Terms.{Variable, Head, variable, Term, lam, spine, Terms, no_terms, term}
use Rattle.ab_term.specs.Typing.{Signature}
use Rattle.ab_term.specs.Expansion.{expansion}
use Rattle.ab_term.specs.Translation.{translate_head, forget, forget_all}
use Rattle.ab_term.specs.Sameness.{same_head}
use Rattle.ab_term.specs.Abstraction.{among, is_name, name_terms, Named, named_none, named_more, Only, OnlyAll, Distinct}
use Rattle.ab_term.specs.EtaHeads.{inner_head, expands}
use Rattle.ab_term.proofs.Translations.{translate-expansion}
use Rattle.ab_term.proofs.Same.{same_head-Decides, same_term-Decides}
use Rattle.ab_term.proofs.Forgetting.{forget_head, forget_plain}
use Rattle.ab_term.proofs.Only.{among_stands, expansion_only}
use Rattle.ab_term.proofs.Recognising.{inner_head-forget, inner_head-expansion_of}
use Rattle.ab_term.proofs.Abstracting.{name_terms_only, only_forgotten}
use Rattle.ab_unifiers.specs.Patterns.{name_if, tested_name, name_of, new_name, pattern, applied, kept, kept_type}
use Rattle.ab_unifiers.proofs.Views.{IsName, IsPattern, pattern_end, pattern_more}

module _ {Hint : Type 0} where
  named_back : (A : Ty) (t : Term ℕ Hint) (h : Head ℕ) → IsName A t h → name_of A t ≡ Some h
  named_back A t h n =
      let inner : inner_head t ≡ Some h = sym (inner_head-forget t) ∙ ap inner_head n.expansion ∙ inner_head-expansion_of tt A h no_terms in
      let test : (is_name h && expands A t h) ≡ true = and_from (is_name h) (expands A t h) n.name ((same_term-Decides (forget t) (expansion tt A h)).1 (forget_plain (forget t) ∙ n.expansion ∙ sym (forget_plain (expansion tt A h)))) in
      ap (tested_name A t) inner ∙ ap (λ b. name_if b h) test

  pub pattern_back : {A : Ty} {ts : Terms ℕ Hint} {hs : List (Head ℕ)} → IsPattern A ts hs → pattern A ts ≡ Some hs
  pattern_back pattern_end = refl
  pattern_back (pattern_more {A = A} {B = B} {t = t} {ts = ts} {h = h} {hs = hs} n d p) =
      ap (λ o. new_name o (pattern B ts)) (named_back A t h n) ∙ ap (new_name (Some h)) (pattern_back p) ∙ ap (λ b. cond b None (Some (h ∷ hs))) d

  -- hints make no difference
  pub pattern_past_hints : {A : Ty} {ts : Terms ℕ Hint} {hs : List (Head ℕ)} → IsPattern A ts hs → (us : Terms ℕ Hint) → forget_all ts ≡ forget_all us → IsPattern A us hs
  pattern_past_hints pattern_end no_terms e = pattern_end
  pattern_past_hints pattern_end (term u us) e = absurd (cc)
  pattern_past_hints (pattern_more n d p) no_terms e = absurd (cc)
  pattern_past_hints (pattern_more {t = t} {ts = ts} n d p) (term u us) e =
      let first : forget t ≡ forget u = cc in
      let rest : forget_all ts ≡ forget_all us = cc in
      pattern_more (record { name = n.name; expansion = sym first ∙ n.expansion }) d (pattern_past_hints p us rest)

  pub pattern_distinct : {A : Ty} {ts : Terms ℕ Hint} {hs : List (Head ℕ)} → IsPattern A ts hs → Distinct hs
  pattern_distinct pattern_end = tt
  pattern_distinct (pattern_more n d p) = (d, n.name, pattern_distinct p)

  pub name_terms_pattern : (x : Hint) (A : Ty) (hs : List (Head ℕ)) → Distinct hs → length hs ≤ arity A → IsPattern A (name_terms x A hs) hs
  name_terms_pattern x A [] d l = pattern_end
  name_terms_pattern x (kind c) (h ∷ hs) d l = absurd (omega (arith, l))
  name_terms_pattern x (arrow A B) (h ∷ hs) d l = pattern_more (record { name = d.1; expansion = translate-expansion (λ v. v) (λ y. tt) x A h ∙ ap (expansion tt A) (forget_head h) }) d.0 (name_terms_pattern x B hs d.2 (omega (arith, l)))

  pub applied_only : (x : Hint) (y : Variable ℕ) (hs ns : List (Head ℕ)) → ((g : Head ℕ) → among hs g ≡ true → among ns g ≡ true) → Only ns (applied x y hs)
  applied_only x y hs ns f = (refl, name_terms_only x y.type hs ns f)

  -- the names of a pattern are all that stand in it
  pub pattern_only : {A : Ty} {ts : Terms ℕ Hint} {hs : List (Head ℕ)} (ns : List (Head ℕ)) → IsPattern A ts hs → ((g : Head ℕ) → among hs g ≡ true → among ns g ≡ true) → OnlyAll ns ts
  pattern_only ns pattern_end f = tt
  pattern_only ns (pattern_more {A = A} {t = t} {h = h} {hs = hs} n d p) f =
      (only_forgotten ns t (subst (Only ns) (sym n.expansion) (expansion_only tt A ns h (among_stands ns h (f h (or_left (same_head h h) (among hs h) ((same_head-Decides h h).1 refl)))))), pattern_only ns p (λ g e. f g (or_right (same_head h g) (among hs g) e)))

module _ {Hint : Type 0} where
  -- the head of what is equal past hints
  pub applied_past_hints : (u : Term ℕ Hint) (z : Variable ℕ) (ts : Terms ℕ Hint) → forget u ≡ forget (spine (variable z) ts) → (us : Terms ℕ Hint) × (u ≡ spine (variable z) us) × (forget_all ts ≡ forget_all us)
  applied_past_hints (lam A x u) z ts e = absurd (cc)
  applied_past_hints (spine h us) z ts e =
      let heads : translate_head (λ v. v) h ≡ variable z = cc in
      let rest : forget_all ts ≡ forget_all us = cc in
      (us, ap (λ k. spine k us) (sym (forget_head h) ∙ heads), rest)

pub kept_among : (keep : List Bool) (hs : List (Head ℕ)) (g : Head ℕ) → among (kept keep hs) g ≡ true → among hs g ≡ true
kept_among [] hs g e = absurd (false≢true e)
kept_among (b ∷ bs) [] g e = absurd (false≢true e)
kept_among (true ∷ bs) (h ∷ hs) g e = go (or_cases (same_head h g) (among (kept bs hs) g) e) (kept_among bs hs g)
  where
    go : (same_head h g ≡ true) ⊎ (among (kept bs hs) g ≡ true) → (among (kept bs hs) g ≡ true → among hs g ≡ true) → among (h ∷ hs) g ≡ true
    go (inl a) rest = or_left (same_head h g) (among hs g) a
    go (inr a) rest = or_right (same_head h g) (among hs g) (rest a)
kept_among (false ∷ bs) (h ∷ hs) g e = or_right (same_head h g) (among hs g) (kept_among bs hs g e)

pub kept_distinct : (keep : List Bool) (hs : List (Head ℕ)) → Distinct hs → Distinct (kept keep hs)
kept_distinct [] hs d = tt
kept_distinct (b ∷ bs) [] d = tt
kept_distinct (true ∷ bs) (h ∷ hs) d = (false_from_ne_true (among (kept bs hs) h) (λ e. false≢true (sym d.0 ∙ kept_among bs hs h e)), d.1, kept_distinct bs hs d.2)
kept_distinct (false ∷ bs) (h ∷ hs) d = kept_distinct bs hs d.2

pub kept_named : {sg : Signature} {G : List Ty} {A C : Ty} {hs : List (Head ℕ)} (keep : List Bool) → length keep ≡ length hs → Named sg G hs A C → Named sg G (kept keep hs) (kept_type keep A) C
kept_named [] l named_none = named_none
kept_named [] l (named_more {hs = hs} e n) = absurd (omega (arith, l))
kept_named (b ∷ bs) l named_none = absurd (omega (arith, l))
kept_named (true ∷ bs) l (named_more {hs = hs} e n) = named_more e (kept_named bs (omega (arith, l)) n)
kept_named (false ∷ bs) l (named_more {hs = hs} e n) = kept_named bs (omega (arith, l)) n
