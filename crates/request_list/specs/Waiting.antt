-- The requests as the table keeps them.
use Rattle.std.specs.Prelude.{List, map}
use Rattle.request_list.specs.declared.requests.Request.{Request}
use Rattle.request_list.specs.declared.waiting.Wanted.{Wanted}
use Rattle.request_list.specs.declared.waiting.Access.{Access}

abbrev pub request_of : Wanted × Access → Request
request_of e = record { blade = e.0.blade; page = e.0.page; write = e.1.write; fetching = e.1.fetching }

abbrev pub requests_of : List (Wanted × Access) → List Request
requests_of entries = map request_of entries
