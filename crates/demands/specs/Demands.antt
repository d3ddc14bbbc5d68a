-- The three demands, each statement a field. A statement outside this record does not count. Assumes nothing.
use Rattle.meaning.specs.Starred.{Starred}
use Rattle.meaning.specs.Kinds.{Kinds}
use Rattle.meaning.specs.Examples.{Examples}
use Rattle.meaning.specs.ByHand.{ByHand}
use Rattle.demands.specs.Words.{Words}
use Rattle.demands.specs.Table.{Tabled}
use Rattle.demands.specs.Text.{Texts, Longest}
use Rattle.demands.specs.Demand2.{Masses, Encodings}
use Rattle.demands.specs.Calls.{Calls}
use Rattle.demands.specs.Fixed.{Fixed}
use Rattle.demands.specs.Demand3.{Dealing, EveryDealing, Neutral, Again, SourceAgain}
use Rattle.demands.specs.Algebra.{Algebra}
use Rattle.demands.specs.Shown.{Shown}

pub record Demands : Type 1 where
  -- the words shared with the meaning, and the method table
  pub words : Words
  pub tabled : Tabled
  -- 1 and 2, call by call, and that what is said of a call is said of one outcome alone
  pub calls : Calls
  pub fixed : Fixed
  -- 2
  pub masses : Masses
  pub encodings : Encodings
  pub texts : Texts
  pub longest : Longest
  -- 3
  pub dealing : Dealing
  pub every_dealing : EveryDealing
  pub neutral : Neutral
  pub again : Again
  pub source_again : SourceAgain
  -- what order and grouping do to a combination
  pub algebra : Algebra
  -- document 01's sums done by hand; a case for each kind and each range; each refusal; a register and a report, and stock cards and amounts, byte by byte
  pub starred : Starred
  pub kinds : Kinds
  pub examples : Examples
  pub by_hand : ByHand
  -- none of these holds for want of a case
  pub shown : Shown
