-- Lists of tokens and spots, cut and joined.
use Rattle.std.proofs.Common.{◌≡◌, List, [], ◌∷◌, ◌++◌, Option, Some, None, refl, ap, sym, ◌∙◌, append_assoc}
use Rattle.std.proofs.lemmas.List.{map-append, append_cancel_left}
use Rattle.ab_grammar.specs.Token.{Token}
use Rattle.ab_grammar.specs.Nesting.{Spot}
use Rattle.ab_grammar.specs.Language.{tokens_of}
use Rattle.ab_grammar.proofs.Following.{first, led_by}

pub tokens_of-append : (us vs : List Spot) → tokens_of (us ++ vs) ≡ tokens_of us ++ tokens_of vs
tokens_of-append us vs = map-append (λ s. s.token) us vs

-- the next token of tokens that it leads
pub first_led : (k : Option Token) (zs : List Token) → first (led_by k zs) ≡ k
first_led None zs = refl
first_led (Some k) zs = refl

-- tokens are led by their first one
pub led_by_first : (ks : List Token) → (zs : List Token) × (ks ≡ led_by (first ks) zs)
led_by_first [] = ([], refl)
led_by_first (k ∷ ks) = (ks, refl)

-- what a text and then the next token begin with
pub begins_like : (ks rest zs : List Token) (us : List Spot) → ks ≡ tokens_of us ++ rest → (ys : List Token) × (tokens_of us ++ led_by (first rest) zs ≡ led_by (first ks) ys)
begins_like ks rest zs [] e = (zs, ap (λ (w : List Token). led_by (first w) zs) (sym e))
begins_like ks rest zs (u ∷ us) e = (tokens_of us ++ led_by (first rest) zs, ap (λ (w : List Token). led_by (first w) (tokens_of us ++ led_by (first rest) zs)) (sym e))

-- two parts, one behind the other
pub cut_in_two : (ks ms rest : List Token) (us vs : List Spot) → ks ≡ tokens_of us ++ ms → ms ≡ tokens_of vs ++ rest → ks ≡ tokens_of (us ++ vs) ++ rest
cut_in_two ks ms rest us vs e f = e ∙ ap (λ (w : List Token). tokens_of us ++ w) f ∙ sym (append_assoc (tokens_of us) (tokens_of vs) rest) ∙ ap (λ (w : List Token). w ++ rest) (sym (tokens_of-append us vs))

pub regroup : (us vs : List Spot) (r : List Token) → tokens_of (us ++ vs) ++ r ≡ tokens_of us ++ (tokens_of vs ++ r)
regroup us vs r = ap (λ (w : List Token). w ++ r) (tokens_of-append us vs) ∙ append_assoc (tokens_of us) (tokens_of vs) r

pub cancel : (us v : List Spot) (r s : List Token) → tokens_of us ++ (tokens_of v ++ r) ≡ tokens_of us ++ s → tokens_of v ++ r ≡ s
cancel us v r s e = append_cancel_left (tokens_of us) (tokens_of v ++ r) s e
