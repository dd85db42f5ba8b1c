-- The numbers of faults, and what they say.
use Rattle.std.specs.Prelude.{ℕ, List, codes}
use Rattle.bean_base.specs.declared.fault.FaultKind.{FaultKind}
use Rattle.bean_base.specs.declared.fault.FaultKind.TheVariants.{BadToken, NotADirective}
use Rattle.bean_base.specs.declared.fault.FaultKind.TheVariants.{OutOfRange, UnmatchedPushOrPop}
use Rattle.bean_base.specs.declared.fault.FaultKind.TheVariants.{Ignored, AccountNotOpen}
use Rattle.bean_base.specs.declared.fault.FaultKind.TheVariants.{AccountClosed, CurrencyNotAllowed}
use Rattle.bean_base.specs.declared.fault.FaultKind.TheVariants.{OpenedTwice, ClosedButNotOpen}
use Rattle.bean_base.specs.declared.fault.FaultKind.TheVariants.{SeveralMissingAmounts}
use Rattle.bean_base.specs.declared.fault.FaultKind.TheVariants.{OutsideProfile, NoLotMatches}
use Rattle.bean_base.specs.declared.fault.FaultKind.TheVariants.{AmbiguousLots, NotEnoughUnits}
use Rattle.bean_base.specs.declared.fault.FaultKind.TheVariants.{NegativeCost, TooWide, Unbalanced}
use Rattle.bean_base.specs.declared.fault.FaultKind.TheVariants.{BalanceFails, UnusedPad, PadAtCost}
use Rattle.bean_base.specs.declared.fault.FaultKind.TheVariants.{IncludeFault, UnknownMethod}

abbrev pub number_of : FaultKind → ℕ
number_of BadToken = 1
number_of NotADirective = 2
number_of OutOfRange = 3
number_of UnmatchedPushOrPop = 4
number_of Ignored = 5
number_of AccountNotOpen = 6
number_of AccountClosed = 7
number_of CurrencyNotAllowed = 8
number_of OpenedTwice = 9
number_of ClosedButNotOpen = 10
number_of SeveralMissingAmounts = 11
number_of OutsideProfile = 12
number_of NoLotMatches = 13
number_of AmbiguousLots = 14
number_of NotEnoughUnits = 15
number_of NegativeCost = 16
number_of TooWide = 17
number_of Unbalanced = 18
number_of BalanceFails = 19
number_of UnusedPad = 20
number_of PadAtCost = 21
number_of IncludeFault = 22
number_of UnknownMethod = 23

abbrev pub text_of : FaultKind → List ℕ
text_of BadToken = codes "F1 bad token"
text_of NotADirective = codes "F2 not a directive"
text_of OutOfRange = codes "F3 value out of range"
text_of UnmatchedPushOrPop = codes "F4 push and pop do not match"
text_of Ignored = codes "F5 ignored"
text_of AccountNotOpen = codes "F6 account not open"
text_of AccountClosed = codes "F7 account closed"
text_of CurrencyNotAllowed = codes "F8 currency not allowed"
text_of OpenedTwice = codes "F9 opened twice"
text_of ClosedButNotOpen = codes "F10 closed but not open"
text_of SeveralMissingAmounts = codes "F11 several missing amounts"
text_of OutsideProfile = codes "F12 outside the profile"
text_of NoLotMatches = codes "F13 no lot matches"
text_of AmbiguousLots = codes "F14 ambiguous lots"
text_of NotEnoughUnits = codes "F15 not enough units"
text_of NegativeCost = codes "F16 negative cost"
text_of TooWide = codes "F17 too wide"
text_of Unbalanced = codes "F18 unbalanced"
text_of BalanceFails = codes "F19 balance fails"
text_of UnusedPad = codes "F20 unused pad"
text_of PadAtCost = codes "F21 pad at cost"
text_of IncludeFault = codes "F22 include fault"
text_of UnknownMethod = codes "F23 unknown method"
