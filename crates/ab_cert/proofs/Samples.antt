-- There is something to read of each part.
use Rattle.std.proofs.Common.{◌<◌, ◌^◌, ℕ, List, [], ◌∷◌, ◌++◌, codes, None, true, false, refl, arith}
use Rattle.ab_lex.specs.Tokens.{ends, letters}
use Rattle.ab_cert.specs.declared.part.Part.{Part}
use Rattle.ab_cert.specs.Plain.{base, bare, constant, Term, spine, no_terms}
use Rattle.ab_cert.specs.Tables.{IsName, word, IsTerm}
use Rattle.ab_cert.specs.Grammar.{end_of, Val, IsVal, part_text, Words}

a_name : IsName (codes "a")
a_name = word (letters refl ends)

abbrev some_term : Term
some_term = spine (constant (codes "a")) no_terms

term_meets : IsTerm some_term
term_meets = (a_name, omega arith, tt)

abbrev sample : (s : Part) → Val s
sample Part.Whole = []
sample Part.Version = []
sample Part.Items = []
sample Part.Clauses = ([], [])
sample Part.Proof = (some_term, ([], []))
sample Part.Step = record { number = 2; fields = [] }
sample Part.Clause = record { variables = []; head = some_term; body = some_term }
sample Part.Name = codes "a"
sample Part.Label = None
sample Part.Flag = false
sample Part.Letter = true
sample Part.Place = 0
sample Part.Long = 0
sample Part.Small = 0
sample Part.Type = base (codes "a")
sample Part.Term = some_term
sample Part.Head = constant (codes "a")
sample Part.Sign = record { word = codes "true"; detail = bare }
sample Part.Variable = record { name = codes "a"; ty = base (codes "a") }
sample Part.Replace = record { number = 0; ty = base (codes "a"); to = some_term }
sample Part.Args = []
sample Part.Names = []
sample Part.Labels = []
sample Part.Numbers = []
sample Part.Variables = []
sample Part.Replaces = []

none : 0 < 2 ^ 64
none = omega arith

meets : (s : Part) → IsVal s (sample s)
meets Part.Whole = tt
meets Part.Version = tt
meets Part.Items = tt
meets Part.Clauses = ((none, tt), tt)
meets Part.Proof = (term_meets, ((none, tt), tt))
meets Part.Step = record { known = refl; fields = tt }
meets Part.Clause = ((none, tt), term_meets, term_meets)
meets Part.Name = a_name
meets Part.Label = tt
meets Part.Flag = tt
meets Part.Letter = tt
meets Part.Place = none
meets Part.Long = omega arith
meets Part.Small = omega arith
meets Part.Type = a_name
meets Part.Term = term_meets
meets Part.Head = a_name
meets Part.Sign = record { known = refl; detail = tt }
meets Part.Variable = (a_name, a_name)
meets Part.Replace = (omega arith, a_name, term_meets)
meets Part.Args = (none, tt)
meets Part.Names = (none, tt)
meets Part.Labels = (none, tt)
meets Part.Numbers = (none, tt)
meets Part.Variables = (none, tt)
meets Part.Replaces = (none, tt)

-- SOME TEXT OF WHAT IS STILL TO BE READ
pub some_words : (pending : List Part) → (w : List ℕ) × Words pending w
some_words [] = ([], refl)
some_words (s ∷ pending) =
    let on = some_words pending in
    (part_text s (end_of pending) (sample s) ++ on.0, record { value = sample s; meets = meets s; rest = on.0; more = on.1; spelled = refl })
