-- Files and a sink in memory: what contracts see of them, and what each call does.
use Rattle.std.specs.Prelude.{not, ◌++◌, take, ◌==◌, ◌-◌, ℕ, ◌+◌, min, Bool, ◌&&◌, ◌||◌, List, [], length, drop, is_none, unwrap_or, if◌then◌else◌}
use Rattle.std.specs.Cmp.Lexicographic.{slice_cmp}
use Rattle.std.specs.FinMap.{FinMap, get, insert}
use Rattle.std.specs.Ordering.{nat_cmp}
use Rattle.cdl_source.specs.Faults.{CallFaults, fails_next, calls_after}
use Rattle.cdl_source.specs.Outside.{Contents}

-- the bytes of each name, each name once
abbrev pub Folder : Type 0
Folder = FinMap (slice_cmp nat_cmp) (List ℕ)

abbrev pub contents_of : Folder → Contents
contents_of files name = get files name

-- Files in memory: the bytes of each name, what is left of the file that was begun last, the number of begins, the most
-- bytes that one read gives, and the calls.
pub record Store : Type 0 where
  pub files : Folder
  pub rest : List ℕ
  pub begun : ℕ
  pub most : ℕ
  pub calls : CallFaults

abbrev pub begin_fails : Store → List ℕ → Bool
begin_fails m name = fails_next m.calls || is_none (contents_of m.files name)

abbrev pub store_begun : Store → List ℕ → Store
store_begun m name =
    record {
      files = m.files;
      rest = if begin_fails m name then [] else unwrap_or (contents_of m.files name) [];
      begun = m.begun + 1;
      most = m.most;
      calls = calls_after m.calls (begin_fails m name);
    }

-- how many bytes the next read gives where it does not fail
abbrev pub read_count : Store → ℕ → ℕ
read_count m room = min (min (length m.rest) room) m.most

abbrev pub store_read : Store → ℕ → Store
store_read m room =
    record {
      files = m.files;
      rest = if fails_next m.calls then m.rest else drop (read_count m room) m.rest;
      begun = m.begun;
      most = m.most;
      calls = calls_after m.calls (fails_next m.calls);
    }

-- with these bytes under this name; nothing is left of the file that was begun last
abbrev pub store_with : Store → List ℕ → List ℕ → Store
store_with m name bytes =
    record { files = insert m.files name bytes; rest = []; begun = m.begun; most = m.most; calls = m.calls }

-- A sink in memory: its bytes, the most that one write takes, the room for all of them, and the calls.
pub record Tray : Type 0 where
  pub bytes : List ℕ
  pub most : ℕ
  pub room : ℕ
  pub calls : CallFaults

-- A write of so many bytes fails: its number is one of those that fail, or there is no room for any of them.
abbrev pub write_fails : Tray → ℕ → Bool
write_fails s size = fails_next s.calls || (not (size == 0) && (length s.bytes == s.room))

-- how many bytes a write of so many takes, where it does not fail
abbrev pub write_count : Tray → ℕ → ℕ
write_count s size = min (min size s.most) (s.room - length s.bytes)

abbrev pub tray_written : Tray → List ℕ → Tray
tray_written s piece =
    record {
      bytes = if write_fails s (length piece) then s.bytes else s.bytes ++ take (write_count s (length piece)) piece;
      most = s.most;
      room = s.room;
      calls = calls_after s.calls (write_fails s (length piece));
    }
