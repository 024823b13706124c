pub mod Opened
pub mod Image
mod InstallRows
mod LiteralRows
pub mod SymbolsAt
pub mod Seeking
pub mod Going
pub mod InTurn
pub mod Filled
pub mod Goes
pub mod GoesMaking
pub mod GoesFilling
pub mod GoesSeeking
pub mod GoesRefilling
pub mod GoesStoring
pub mod GoesInstalling
pub mod GoesReading
pub mod GoesPlans
pub mod GoesSymbols
pub mod GoesLiterals
pub mod GoesPlanning
pub mod GoesNames
pub mod GoesLaw
pub mod SameReads
pub mod SameSteps
pub mod SameTables
pub mod SameNames
pub mod SameParts
pub mod SameSymbols
pub mod SameLiterals
pub mod SamePlaces
pub mod SamePlanning
pub mod SameCalls
pub mod SameFilling
pub mod SameRooms
pub mod SameInstalls
pub mod SameAnswers
pub mod SameHeaders
pub mod Rooms
pub mod Numbers
pub mod Singles
pub mod Placing
pub mod Vacancies
pub mod Growth
pub mod SymbolsOf
pub mod Refills
pub mod Stores
pub mod Makings
mod Unbounded
pub mod Carryings
pub mod GainsPlaces
pub mod GainsRefilling
pub mod GainsFinding
pub mod GainsClass
pub mod GainsAbsent
pub mod GainsPlanning
pub mod GainsStoring
pub mod GainsEffect
pub mod GainsNames
pub mod GainsLaw
pub mod GainsStaying
pub mod Drafting
pub mod Growths
pub mod Planned
pub mod Readying
pub mod Smalls
pub mod Joining
pub mod Compiling
mod DefinitionOpened
pub mod Exits
pub mod Headed
mod Rows
pub mod Selectors
pub mod Arities
mod FitsLiterals
mod FitsPhrases
mod FitsNaming
mod FitsPlans
pub mod FitsLaw
