-- What is read off the front of a longer list of tokens, and why reading stops there: the answers of a reader of one part of a text.
-- No public contract speaks of it.
use Rattle.std.specs.Prelude.{◌≡◌, List, [], ◌∷◌, ◌++◌, Option, All}
use Rattle.ab_grammar.specs.Token.{Token}
use Rattle.ab_grammar.specs.Nesting.{Spot, IsShallow}
use Rattle.ab_grammar.specs.Language.{tokens_of, Begins}
use Rattle.ab_grammar.proofs.Following.{first, led_by}

module _ {A : Type 0} (G : List Spot → A → Type 0) where
  -- us was read, a text of G; where k comes next, a token or the end, no other text of G, with what may follow it, begins so, and us has no other value
  pub record Read (F : List Token → Type 0) (us : List Spot) (a : A) (k : Option Token) : Type 0 where
    pub is : G us a
    pub only : (w : List Spot) (b : A) (r zs : List Token) → G w b → F r → tokens_of w ++ r ≡ tokens_of us ++ led_by k zs → (w ≡ us) × (b ≡ a)

  -- some text of G begins with us, but none, with what may follow it, goes on by k, or ends there where that is the end
  pub record Fails (F : List Token → Type 0) (us : List Spot) (k : Option Token) : Type 0 where
    pub begins : Begins G us
    pub none : (w : List Spot) (b : A) (r zs : List Token) → G w b → F r → tokens_of w ++ r ≡ tokens_of us ++ led_by k zs → ⊥

module _ {A : Type 0} (G : List Spot → A → Type 0) (F : List Token → Type 0) (ks : List Token) where
  -- a text of G stands in front, nowhere nested above the limit; the rest follows
  pub record ReadsOff (a : A) (rest : List Token) : Type 0 where
    pub read : List Spot
    pub shallow : All IsShallow read
    pub tokens : ks ≡ tokens_of read ++ rest
    pub reads : Read G F read a (first rest)

  -- up to the rest a text of G begins, nowhere nested above the limit, but none goes on by the next token, or ends there where there is none
  pub record StopsAt (rest : List Token) : Type 0 where
    pub read : List Spot
    pub shallow : All IsShallow read
    pub tokens : ks ≡ tokens_of read ++ rest
    pub fails : Fails G F read (first rest)

  -- the next token is the first that is nested above the limit, in each text of G that begins so far
  pub record NestsAt (rest : List Token) : Type 0 where
    pub read : List Spot
    pub last : Spot
    pub behind : List Token
    pub shallow : All IsShallow read
    pub deep : IsShallow last → ⊥
    pub tokens : ks ≡ tokens_of read ++ rest
    pub next : rest ≡ last.token ∷ behind
    pub begins : Begins G (read ++ last ∷ [])
    pub only : (w : List Spot) (b : A) (r zs : List Token) → G w b → F r → tokens_of w ++ r ≡ tokens_of read ++ last.token ∷ zs → (x : List Spot) × (w ≡ read ++ last ∷ x)

-- why a part is refused
pub data Cause : Type 0 where
  ungrammatical : Cause
  too_nested : Cause

abbrev pub RefusesAt : {A : Type 0} → (List Spot → A → Type 0) → (List Token → Type 0) → Cause → List Token → List Token → Type 0
RefusesAt G F ungrammatical ks rest = StopsAt G F ks rest
RefusesAt G F too_nested ks rest = NestsAt G F ks rest
