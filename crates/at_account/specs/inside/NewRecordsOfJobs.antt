-- The new records of the jobs in a map, one job after the other.
use Rattle.std.specs.Prelude.{◌++◌, [], ◌∷◌, List}
use Rattle.at_account.specs.declared.record.AccountRecord.{AccountRecord}
use Rattle.at_account.specs.News.{news_of}
use Rattle.at_account.specs.inside.KnownJobs.{Known}

-- what is new of each of these
abbrev pub news_of_all : List AccountRecord → List Known → List AccountRecord
news_of_all before [] = []
news_of_all before (one ∷ later) = news_of before one.0 one.1 ++ news_of_all before later
