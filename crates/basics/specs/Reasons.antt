-- The number of each reason why a call is refused.
use Rattle.std.specs.Prelude.{ℕ, Result, Ok, Err}
use Rattle.basics.specs.declared.Reason.{Reason}
use Rattle.basics.specs.declared.Reason.TheVariants.{BadParty, BadQuantity, BadAmount, BadClosedDays, BadLength, BadDay, LegsFull, NotFound, NotEntitled, TooLittleOutstanding, WrongStage, OffersFull, AboveCap, OverCollected, NoNextDay, NoCloseSince, NeverClosed, BadYears, BadStart, RatesFull, NoRate}

-- R1 to R5 and R11 to R26, Refusals: the number of a refusal for this reason
abbrev pub number_of : Reason → ℕ
number_of BadParty = 1
number_of BadQuantity = 2
number_of BadAmount = 3
number_of BadClosedDays = 4
number_of BadLength = 5
number_of BadDay = 11
number_of LegsFull = 12
number_of NotFound = 13
number_of NotEntitled = 14
number_of TooLittleOutstanding = 15
number_of WrongStage = 16
number_of OffersFull = 17
number_of AboveCap = 18
number_of OverCollected = 19
number_of NoNextDay = 20
number_of NoCloseSince = 21
number_of NeverClosed = 22
number_of BadYears = 23
number_of BadStart = 24
number_of RatesFull = 25
number_of NoRate = 26

-- A1, Refusals: the answer number of a call, which is 0 if the call is done
abbrev pub answer_of : {A : Type 0} → Result A Reason → ℕ
answer_of (Ok done) = 0
answer_of (Err reason) = number_of reason
