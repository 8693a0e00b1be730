-- What a file over a disk means.
use Rattle.sector_disk.specs.Disk.{Disk}
use Rattle.sector_disk.specs.Blocks.{Blocks}
use Rattle.sector_disk.specs.declared.sector_file.SectorFile.{SectorFile}

-- the disk that has its blocks
abbrev pub sectors_of : {D : Type 0} → SectorFile D → D
sectors_of f = f.disk

-- Its blocks are the sectors of that disk, and it is honest where the disk is. It has its own length.
abbrev pub sector_file : {D : Type 0} → Disk D → Blocks (SectorFile D)
sector_file disk = record {
  honest = λ f. disk.honest f.disk;
  length = λ f. f.length;
  reads = λ f. disk.reads f.disk;
  may_leave = λ f c. disk.may_leave f.disk c;
  moment = λ f. disk.moment f.disk;
  left_since = λ f t c. disk.left_since f.disk t c;
  reads_left = λ f honest. disk.reads_left f.disk honest;
  counts_now = λ f t c honest le left. disk.counts_now f.disk t c honest le left;
  only_now = λ f c honest left. disk.only_now f.disk c honest left;
}
