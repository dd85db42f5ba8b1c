-- Worked rows.
use Rattle.std.proofs.Common.{◌≡◌, true, false, [], ◌∷◌, Ok, Err, refl}
use Rattle.std.specs.Prelude.{codes}
use Rattle.stores.specs.declared.source.SourceFault.TheVariants as source
use Rattle.refusals.specs.declared.refusal.Refusal.TheVariants.{Refused}
use Rattle.bean_load.specs.Gathered.{is_full, is_too_large, nothing, with_asked, with_fault}
use Rattle.bean_load.specs.Gathered.{with_read}
use Rattle.bean_load.specs.Gathering.{Comes, LineComes}
use Rattle.bean_load.specs.Include.{joined}
use Rattle.bean_load.specs.Placed.{part_at, parts_of}
use Rattle.bean_load.specs.declared.cause.LoadCause.TheVariants.{Unreadable, TooLarge}

-- names
beside : joined (codes "books/main") (codes "2014") ≡ codes "books/2014"
beside = refl

deeper : joined (codes "books/2014/main") (codes "05/a") ≡ codes "books/2014/05/a"
deeper = refl

rooted : joined (codes "books/main") (codes "/srv/a") ≡ codes "/srv/a"
rooted = refl

no_folder : joined (codes "-") (codes "a") ≡ codes "a"
no_folder = refl

-- nothing is made shorter
kept : joined (codes "books/main") (codes "../a") ≡ codes "books/../a"
kept = refl

-- a text of 16 MiB fits, and one of a byte more doesn't; nor does the first byte above 64 MiB of
-- all
largest : is_too_large 16777216 nothing ≡ false
largest = refl

larger : is_too_large 16777217 nothing ≡ true
larger = refl

too_much : is_too_large 1 (with_read 67108864 nothing) ≡ true
too_much = refl

-- no text stands below one that is 16 deep
deepest : is_full 0 nothing ≡ true
deepest = refl

-- a ledger that can't be read
unreadable : Comes (codes "l") ((codes "l", Err source.Failed) ∷ []) (Err (Refused Unreadable))
unreadable = (Err source.Failed, [], refl, (refl, refl))

-- a text that includes itself: F22 at its line, and nothing is asked
itself : LineComes 16 0 record {
  line = 7;
  name =
      codes "l";
} (with_asked (codes "l") nothing) [] []
    (Ok (with_fault 0 7 (with_asked (codes "l") nothing)))
itself = (refl, refl)

-- a name that the source doesn't have: F22 at its line
missing :
    LineComes 16 0 record {
      line = 7;
      name =
          codes "a";
    } (with_asked (codes "l") nothing) ((codes "a", Err source.Failed) ∷ []) []
    (Ok (with_fault 0 7 (with_asked (codes "a") (with_asked (codes "l") nothing))))
missing = (Err source.Failed, [], refl, (refl, refl))

-- what stands 16 deep ends the load
too_deep :
    LineComes 0 0 record {
      line = 7;
      name =
          codes "a";
    } (with_asked (codes "l") nothing) [] [] (Err (Refused TooLarge))
too_deep = (refl, refl)

-- the lines of a text with another at line 3: those before it stand in its first part, which is
-- part 0 of the ledger, and
-- those behind it in part 2
before_line :
    part_at (parts_of 0 0 (record { file = 0; behind = 0 } ∷ record { file = 1; behind = 0 }
    ∷ record { file = 0; behind = 3 } ∷ [])) 2 ≡ 0
before_line = refl

inside : part_at
    (parts_of 1 0 (record { file = 0; behind = 0 } ∷ record { file = 1; behind = 0 }
    ∷ record { file = 0; behind = 3 } ∷ [])) 8 ≡ 1
inside = refl

behind_line :
    part_at (parts_of 0 0 (record { file = 0; behind = 0 } ∷ record { file = 1; behind = 0 }
    ∷ record { file = 0; behind = 3 } ∷ [])) 4 ≡ 2
behind_line = refl
