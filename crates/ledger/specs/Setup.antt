-- What a book keeps from its Open on: its closed days and its terms.
use Rattle.std.specs.Prelude.{◌≤◌, ◌<◌, ◌≡◌, length}
use Rattle.calendar.specs.Closed.{most_closed, Rises}
use Rattle.ledger.specs.declared.Terms.{Terms}
use Rattle.ledger.specs.declared.Setup.{Setup}

-- O9, Open: what holds of the terms of every book: the three ages rise, and last is not above 35
pub record ValidTerms (t : Terms) : Type 0 where
  pub notice_before : t.notice.0 < t.grace.0
  pub grace_before : t.grace.0 < t.last.0
  pub last_most : t.last.0 ≤ 35

-- O9, Open: what holds of the setup of every book
pub record ValidSetup (s : Setup) : Type 0 where
  pub closed_size : length s.closed_days.days ≡ most_closed
  pub closed_few : s.closed_days.count ≤ most_closed
  pub closed_rises : Rises s.closed_days
  pub terms : ValidTerms s.terms
