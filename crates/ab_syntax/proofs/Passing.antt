-- What a reader says of the whole where a part was refused.
use Rattle.std.proofs.Common.{◌≡◌, List, map, Result, Ok, Err, sym, subst}
use Rattle.std.proofs.lemmas.List.{map-id}
use Rattle.ab_grammar.specs.Token.{Token}
use Rattle.ab_grammar.specs.Nesting.{Spot}
use Rattle.ab_grammar.specs.Language.{Key}
use Rattle.ab_grammar.proofs.Following.{Anything}
use Rattle.ab_grammar.proofs.Reading.{ReadsOff, ungrammatical, too_nested}
use Rattle.ab_grammar.proofs.Choosing.{fewer_reads, fewer_refuses}
use Rattle.ab_grammar.proofs.Continuing.{Continues}
use Rattle.ab_grammar.proofs.Rows.{TwoParts}
use Rattle.ab_expressions.specs.declared.stop.Stop.{Stop}
use Rattle.ab_expressions.specs.declared.stop.Stop.TheVariants.{Syntax, TooNested, Memory}
use Rattle.ab_expressions.specs.Reader.{Refused, Found, IsClosedBy}

-- a refusal of the last part is one of the whole
pub refused_on : {A B : Type 0} {H : List Spot → A → Type 0} {R : List Spot → B → Type 0} {F : List Token → Type 0} {f : A → B} {ms ks : List Token} → Continues H R F f ms ks
    → (s : Stop) (rest : List Token) → Refused H F s ms rest → Refused R F s ks rest
refused_on c Syntax rest r = c.refuses ungrammatical rest r
refused_on c TooNested rest r = c.refuses too_nested rest r
refused_on c (Memory e) rest r = tt

-- a refusal of the first part is one of the whole
pub refused_first : {A B C : Type 0} {G : List Spot → A → Type 0} {E : List Token → Type 0} {H : List Spot → B → Type 0} {R : List Spot → C → Type 0} {F : List Token → Type 0} {f : A → B → C} → TwoParts G E H R F f
    → (ks : List Token) (s : Stop) (rest : List Token) → Refused G E s ks rest → Refused R F s ks rest
refused_first p ks Syntax rest r = p.first_refused ks ungrammatical rest r
refused_first p ks TooNested rest r = p.first_refused ks too_nested rest r
refused_first p ks (Memory e) rest r = tt

-- fewer things may follow
pub refused_fewer : {A : Type 0} (G : List Spot → A → Type 0) (F E : List Token → Type 0) → ((r : List Token) → E r → F r) → (ks rest : List Token) (s : Stop) → Refused G F s ks rest → Refused G E s ks rest
refused_fewer G F E less ks rest Syntax r = fewer_refuses G F E less ks rest ungrammatical r
refused_fewer G F E less ks rest TooNested r = fewer_refuses G F E less ks rest too_nested r
refused_fewer G F E less ks rest (Memory e) r = tt

-- what the last part answers is answered for the whole
pub found_on : {A B X : Type 0} {H : List Spot → A → Type 0} {R : List Spot → B → Type 0} {F : List Token → Type 0} {f : A → B} {ms ks : List Token} → Continues H R F f ms ks
    → (value : X → A) (rest : List Token) (r : Result X Stop) → Found H F value ms rest r → Found R F (λ x. f (value x)) ks rest r
found_on c value rest (Ok x) p = c.reads (value x) rest p
found_on c value rest (Err s) p = refused_on c s rest p

pub fewer_found : {A X : Type 0} (G : List Spot → A → Type 0) (F E : List Token → Type 0) → ((r : List Token) → E r → F r) → (value : X → A) (ks rest : List Token) (r : Result X Stop) → Found G F value ks rest r → Found G E value ks rest r
fewer_found G F E less value ks rest (Ok x) p = fewer_reads G F E less ks rest (value x) p
fewer_found G F E less value ks rest (Err s) p = refused_fewer G F E less ks rest s p

-- items that stand for themselves
pub as_they_are : {A : Type 0} (G : List Spot → List A → Type 0) (F : List Token → Type 0) (ks ms : List Token) (xs : List A) → ReadsOff G F ks (map (λ x. x) xs) ms → ReadsOff G F ks xs ms
as_they_are G F ks ms xs p = subst (λ (v : List _). ReadsOff G F ks v ms) (map-id xs) p

-- what is said of a part in other words
pub found_said : {A X : Type 0} (G : List Spot → A → Type 0) (F : List Token → Type 0) (value other : X → A) → ((x : X) → value x ≡ other x) → (ks rest : List Token) (r : Result X Stop) → Found G F value ks rest r → Found G F other ks rest r
found_said G F value other same ks rest (Ok x) p = subst (λ a. ReadsOff G F ks a rest) (same x) p
found_said G F value other same ks rest (Err s) p = p

-- what is made of a part, and of the key behind it
pub closed_made : {A C X : Type 0} (f : A → C) (k : Token) {G : List Spot → A → Type 0} {E : List Token → Type 0} {R : List Spot → C → Type 0} {F : List Token → Type 0} → TwoParts G E (Key k) R F (λ a u. f a)
    → (value : X → A) (ks ms ns : List Token) (part r : Result X Stop) → Found G E value ks ms part → IsClosedBy k ms ns part r → Found R F (λ x. f (value x)) ks ns r
closed_made {X = X} f k {R = R} {F = F} p value ks ms ns (Err s) r q (e, same) =
    let refused = refused_first p ks s ms q in
    subst (λ (o : Result X Stop). Found R F (λ x. f (value x)) ks ns o) (sym e) (subst (λ (w : List Token). Refused R F s ks w) (sym same) refused)
closed_made {X = X} f k {R = R} {F = F} p value ks ms ns (Ok x) (Ok y) q (e, read) =
    subst (λ (z : X). ReadsOff R F ks (f (value z)) ns) (sym e) ((p.first_read ks ms (value x) q).reads tt ns (fewer_reads (Key k) Anything F (λ r f. tt) ms ns tt read))
closed_made f k {F = F} p value ks ms ns (Ok x) (Err s) q refused = refused_on (p.first_read ks ms (value x) q) s ns (refused_fewer (Key k) Anything F (λ r f. tt) ms ns s refused)

-- a part, and the key behind it
pub closed_found : {A X : Type 0} (k : Token) {G : List Spot → A → Type 0} {E : List Token → Type 0} {R : List Spot → A → Type 0} {F : List Token → Type 0} → TwoParts G E (Key k) R F (λ a u. a)
    → (value : X → A) (ks ms ns : List Token) (part r : Result X Stop) → Found G E value ks ms part → IsClosedBy k ms ns part r → Found R F value ks ns r
closed_found k p value = closed_made (λ a. a) k p value

-- the same where nothing was taken before
pub refused_from : {A : Type 0} (G : List Spot → A → Type 0) (F : List Token → Type 0) (ks ms rest : List Token) (s : Stop) → ms ≡ ks → Refused G F s ms rest → Refused G F s ks rest
refused_from G F ks ms rest s e r = subst (λ (w : List Token). Refused G F s w rest) e r
