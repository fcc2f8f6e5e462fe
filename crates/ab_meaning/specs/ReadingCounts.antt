-- Whether an expression has one reading, none, or several, and where several differ first.
use Rattle.std.specs.Prelude.{◌≡◌, ◌≢◌, ℕ, ◌<◌, List, [], length, get_or}
use Rattle.ab_term.specs.Types.{Ty, prop}
use Rattle.ab_meaning.specs.ResolvedNames.{Name, Resolved, places_of}
use Rattle.ab_meaning.specs.Readings.{Raw, Making, Reads}

module _ (made : Making) where
  -- a reading, and the types that it gives to binders and free names
  pub record Reading (e : Resolved) (A : Ty) : Type 0 where
    pub term : Raw
    pub given : List Ty
    pub types : Name → Ty
    pub reads : Reads made types [] e term A given

  -- the term is the one reading
  pub record IsTheReading (e : Resolved) (A : Ty) (t : Raw) : Type 0 where
    pub reading : Reading e A
    pub is : reading.term ≡ t
    pub alone : (other : Reading e A) → other.term ≡ t

  abbrev pub HasNoReading : Resolved → Ty → Type 0
  HasNoReading e A = Reading e A → ⊥

  -- two readings give the name of this number different types
  pub record Differ (e : Resolved) (A : Ty) (k : ℕ) : Type 0 where
    pub one : Reading e A
    pub other : Reading e A
    pub apart : get_or one.given k prop ≢ get_or other.given k prop

  -- at this place stands the first name to which two readings give different types
  pub record IsFirstOpen (e : Resolved) (A : Ty) (place : ℕ) : Type 0 where
    pub number : ℕ
    pub within : number < length (places_of e)
    pub place_is : place ≡ get_or (places_of e) number 0
    pub differ : Differ e A number
    pub first : (k : ℕ) → k < number → Differ e A k → ⊥
