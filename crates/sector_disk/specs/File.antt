-- What a disk in a file means.
use Rattle.std.specs.Prelude.{◌≡◌, ◌<◌, ℕ, replicate}
use Rattle.sector_disk.specs.Disk.{Disk, Image, IsSame}
use Rattle.sector_disk.specs.Blocks.{Blocks}
use Rattle.sector_disk.specs.SystemFile.{system_blocks}
use Rattle.sector_disk.specs.declared.file.FileDisk.{FileDisk}
use Rattle.sector_disk.specs.declared.system_file.SystemFile.{SystemFile}

-- the file that it is in
abbrev pub file_of : {F : Type 0} → FileDisk F → F
file_of d = d.file

-- Sector i is block i of its file, and it is honest where the file is. It has its own number of sectors and count of faults.
abbrev pub disk_in : {F : Type 0} → Blocks F → Disk (FileDisk F)
disk_in blocks = record {
  honest = λ d. blocks.honest d.file;
  count = λ d. d.count;
  reads = λ d. blocks.reads d.file;
  may_leave = λ d c. blocks.may_leave d.file c;
  moment = λ d. blocks.moment d.file;
  left_since = λ d t c. blocks.left_since d.file t c;
  faults = λ d. d.faults;
  reads_left = λ d honest. blocks.reads_left d.file honest;
  counts_now = λ d t c honest le left. blocks.counts_now d.file t c honest le left;
  only_now = λ d c honest left. blocks.only_now d.file c honest left;
}

-- a disk in a file of the system
abbrev pub file_disk : {F : Type 0} → Disk (FileDisk (SystemFile F))
file_disk = disk_in system_blocks

-- a disk that was made anew: 2,048 sectors of zeros, which a power cut leaves as they are, and no fault so far
pub record IsNew {D : Type 0} (disk : Disk D) (d : D) : Type 0 where
  pub count : disk.count d ≡ 2048
  pub faults : disk.faults d ≡ 0
  pub zeros : disk.honest d → (k : ℕ) → k < 2048 → disk.reads d k ≡ replicate 512 0
  pub synced : disk.honest d → (c : Image) → disk.may_leave d c → IsSame c (disk.reads d)
