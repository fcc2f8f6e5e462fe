-- WHAT IS CERTAIN. The logic that laws are stated in has no excluded middle, and what a law says to exist is often found by no
-- search that ends: whether an expression has a reading, say. So "it is there" is said here as "it can't be that it isn't there",
-- which in mathematics as it is commonly done is the same.

-- it can't fail to hold
abbrev pub IsCertain : Type 0 → Type 0
IsCertain P = ¬ (¬ P)

-- one of the two holds: not both fail
abbrev pub OneHolds : Type 0 → Type 0 → Type 0
OneHolds P Q = ¬ ((¬ P) × (¬ Q))

-- one of the three holds: not all fail
abbrev pub OneOfThreeHolds : Type 0 → Type 0 → Type 0 → Type 0
OneOfThreeHolds P Q R = ¬ ((¬ P) × (¬ Q) × (¬ R))
