-- The readings of a clause: those of its head and its body together. A free name has one type throughout both, and the types
-- at binders and free names are counted over both, the head's first.
use Rattle.std.specs.Prelude.{◌≡◌, ◌≢◌, ℕ, ◌<◌, List, [], ◌++◌, length, get_or}
use Rattle.ab_term.specs.Types.{Ty, prop}
use Rattle.ab_meaning.specs.ResolvedNames.{Name, Resolved, places_of}
use Rattle.ab_meaning.specs.Readings.{Raw, Making, Reads}

-- head and body, whose names are resolved
pub record Parts : Type 0 where
  pub head : Resolved
  pub body : Resolved

abbrev pub places_in : Parts → List ℕ
places_in e = places_of e.head ++ places_of e.body

module _ (made : Making) where
  -- a reading of the head at the first type, and of the body at the second
  pub record ClauseReading (e : Parts) (A B : Ty) : Type 0 where
    pub head : Raw
    pub body : Raw
    pub types : Name → Ty
    pub in_head : List Ty
    pub in_body : List Ty
    pub reads_head : Reads made types [] e.head head A in_head
    pub reads_body : Reads made types [] e.body body B in_body

  -- the types that it gives to binders and free names
  abbrev pub types_given : {e : Parts} {A B : Ty} → ClauseReading e A B → List Ty
  types_given r = r.in_head ++ r.in_body

  -- there is one reading, and no other
  pub record HasOneReading (e : Parts) (A B : Ty) : Type 0 where
    pub reading : ClauseReading e A B
    pub alone : (other : ClauseReading e A B) → (other.head ≡ reading.head) × (other.body ≡ reading.body)

  abbrev pub HasNoReading : Parts → Ty → Ty → Type 0
  HasNoReading e A B = ClauseReading e A B → ⊥

  -- two readings give the name of this number different types
  pub record Differ (e : Parts) (A B : Ty) (k : ℕ) : Type 0 where
    pub one : ClauseReading e A B
    pub other : ClauseReading e A B
    pub apart : get_or (types_given one) k prop ≢ get_or (types_given other) k prop

  -- at this place stands the first name to which two readings give different types
  pub record IsFirstOpen (e : Parts) (A B : Ty) (place : ℕ) : Type 0 where
    pub number : ℕ
    pub within : number < length (places_in e)
    pub place_is : place ≡ get_or (places_in e) number 0
    pub differ : Differ e A B number
    pub first : (k : ℕ) → k < number → Differ e A B k → ⊥
