-- What a reader of one part finds at the front of tokens: a text of the part, or why there is none. A form is total where
-- something is found for all tokens.
use Rattle.std.proofs.Common.{List}
use Rattle.ab_grammar.specs.Token.{Token}
use Rattle.ab_grammar.specs.Nesting.{Spot}
use Rattle.ab_grammar.proofs.Reading.{ReadsOff, StopsAt, NestsAt, ungrammatical, too_nested}
use Rattle.ab_grammar.proofs.Choosing.{fewer_reads, fewer_refuses}
use Rattle.ab_grammar.proofs.Continuing.{Continues}
use Rattle.ab_grammar.proofs.Rows.{TwoParts}

pub data Outcome {A : Type 0} (G : List Spot → A → Type 0) (F : List Token → Type 0) (ks : List Token) : Type 0 where
  is_read : (a : A) (ms : List Token) → ReadsOff G F ks a ms → Outcome G F ks
  is_stopped : (ms : List Token) → StopsAt G F ks ms → Outcome G F ks
  is_deep : (ms : List Token) → NestsAt G F ks ms → Outcome G F ks

abbrev pub Total : {A : Type 0} → (List Spot → A → Type 0) → (List Token → Type 0) → Type 0
Total G F = (ks : List Token) → Outcome G F ks

-- what is found of a part is found of the whole
pub onwards : {A B : Type 0} {G : List Spot → A → Type 0} {R : List Spot → B → Type 0} {F : List Token → Type 0} {f : A → B} {ms ks : List Token} → Continues G R F f ms ks → Outcome G F ms → Outcome R F ks
onwards {f = f} p (is_read a ns r) = is_read (f a) ns (p.reads a ns r)
onwards p (is_stopped ns r) = is_stopped ns (p.refuses ungrammatical ns r)
onwards p (is_deep ns r) = is_deep ns (p.refuses too_nested ns r)

-- two parts
module _ {A B C : Type 0} {G : List Spot → A → Type 0} {E : List Token → Type 0} {H : List Spot → B → Type 0} {R : List Spot → C → Type 0} {F : List Token → Type 0} {f : A → B → C} (p : TwoParts G E H R F f) (h : Total H F) where
  behind_first : (ks : List Token) → Outcome G E ks → Outcome R F ks
  behind_first ks (is_read a ms r) = onwards (p.first_read ks ms a r) (h ms)
  behind_first ks (is_stopped ms r) = is_stopped ms (p.first_refused ks ungrammatical ms r)
  behind_first ks (is_deep ms r) = is_deep ms (p.first_refused ks too_nested ms r)

  pub two : Total G E → Total R F
  two g ks = behind_first ks (g ks)

-- fewer things may follow
module _ {A : Type 0} (G : List Spot → A → Type 0) (F E : List Token → Type 0) (less : (r : List Token) → E r → F r) where
  fewer_found : (ks : List Token) → Outcome G F ks → Outcome G E ks
  fewer_found ks (is_read a ms r) = is_read a ms (fewer_reads G F E less ks ms a r)
  fewer_found ks (is_stopped ms r) = is_stopped ms (fewer_refuses G F E less ks ms ungrammatical r)
  fewer_found ks (is_deep ms r) = is_deep ms (fewer_refuses G F E less ks ms too_nested r)

  pub fewer : Total G F → Total G E
  fewer g ks = fewer_found ks (g ks)
