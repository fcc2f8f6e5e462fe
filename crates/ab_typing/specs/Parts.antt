-- The program's words for parts and places.
use Rattle.ab_formulas.specs.Stratification as plain
use Rattle.ab_formulas.specs.Heads as heads
use Rattle.ab_typing.specs.declared.stratification.Part.{Part}
use Rattle.ab_typing.specs.declared.stratification.Part.TheVariants.{Everywhere, LeftOfArrows}
use Rattle.ab_typing.specs.declared.heads.Place.{Place}
use Rattle.ab_typing.specs.declared.heads.Place.TheVariants.{InTheAtom, UnderAVariable}

abbrev pub part_of : Part → plain.Part
part_of Everywhere = plain.everywhere
part_of LeftOfArrows = plain.left_of_arrows

abbrev pub place_of : Place → heads.Place
place_of InTheAtom = heads.in_the_atom
place_of UnderAVariable = heads.under_a_variable
